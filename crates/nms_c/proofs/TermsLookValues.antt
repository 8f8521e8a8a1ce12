-- The machine values of a `Lease` of settings and of a look at terms. Assumes `Logic`.
use Rattle.std.proofs.Common.{◌≡◌, ◌≢◌, ◌<◌, ◌^◌, ℕ, List, [], ◌∷◌, ◌++◌, refl, subst, lit<, w64, Option, Some, None, arith}
use mathlib.Core.Bool.{◌&&◌, true}
use lib.Dec.{T}
use seplogic.Ra.Ura.{Ura}
use mir.Syntax.{ty_ptr}
use mir.Val.{Val, vint, vstruct, vcons, vnil, of_list, has_ty, WT}
use base.Fml.{ftrue}
use types.Logic.{Logic}
use types.Kit.{Item, Goal, Seq, Step, step, ‵, ◌$◌, drop, fsplit, fjoin, fpick, fpack, feq_i, feq_l, flt_i, flt_l}
use denote.RattleType.{RattleType, Valss}
use denote.Builtin.{RawPtr, u64}
use denote.RawPtr.{Ptr, null_ptr, ptr_val}
use denote.Steps.{nothing}
use denote.Struct.Struct.{within}
use denote.Struct.Owning.{shape}
use denote.Struct.Values.{intos}
use Rattle.core.proofs.atomic.Steps.{Ptr-Good}
use Rattle.std_alloc.proofs.ResultValues.{and_tt}
use Rattle.left_right.specs.Parted.{part_owns}
use Rattle.nms_c.specs.contracts.lease.Lease as lease
use Rattle.nms_c.specs.contracts.terms_look.NmsTermsLook as look
use Rattle.nms_c.specs.TermsLooked.{terms_looked}
use Rattle.nms_c.specs.TermsHeld.{terms_mark}
use Rattle.nms_fees.specs.contracts.setup.Setup as kept

abbrev pub K-row : RattleType
K-row = kept.the_row

abbrev pub L-row : RattleType
L-row = lease.the_row K-row

abbrev pub N-row : RattleType
N-row = look.the_row

abbrev pub pair : ℕ → Ptr → Val
pair m p = vstruct (vcons (vint w64 m) (vcons (ptr_val p) vnil))

abbrev pub single : Ptr → Val
single p = vstruct (vcons (ptr_val p) vnil)

pub pair_good : (m : ℕ) (p : Ptr) → m < 2 ^ 64 → T (has_ty ty_ptr (ptr_val p) && true) × WT (pair m p)
pair_good m p fm = (and_tt (has_ty ty_ptr (ptr_val p)) (Ptr-Good p).0, (record { fits = fm }, ((Ptr-Good p).1, tt)))

pub single_good : (p : Ptr) → T (has_ty ty_ptr (ptr_val p) && true) × WT (single p)
single_good p = (and_tt (has_ty ty_ptr (ptr_val p)) (Ptr-Good p).0, ((Ptr-Good p).1, tt))

module _ {M : Type 1} {𝓤 : Ura M} {𝓛 : Logic 𝓤} {K : Type 0} {Γ : List (Item 𝓤)} {G : Goal 𝓤 𝓛.H} where
  pub lease_out : K → (d : L-row.Denot) (vs : List Val)
      → (vs ≡ single d.ptr ∷ [] → Seq K 𝓛 (‵ (part_owns K-row d.ptr d.value d.round d.count) ∷ Γ) G)
      → Seq K 𝓛 (‵ (L-row.own_val d vs) ∷ Γ) G
  lease_out t d vs k =
      fsplit t $ fpick t (λ vss. fsplit t $ feq_l t (λ ev. fsplit t $ feq_l t (λ ep. drop t $ k
      (subst (λ (ps : List Val). vs ≡ vstruct (of_list (ps ++ [])) ∷ []) ep ev))))

  pub lease_in : K → (p : Ptr) (x : K-row.Denot) (a n : ℕ)
      → Step K 𝓛 (‵ (L-row.own_val (record { ptr = p; value = x; round = a; count = n }) (single p ∷ [])) ∷ Γ) G (‵ (part_owns K-row p x a n) ∷ Γ) G
  lease_in t p x a n = step (λ s. let v : Val = single p in
      nothing t $ feq_i t (List Val) (ptr_val p ∷ []) (ptr_val p ∷ []) refl $ fjoin t $
      feq_i t (List Val) (v ∷ []) (v ∷ []) refl $ fjoin t $
      fpack t (Valss (RawPtr ∷ [])) (within (shape (lease.the_type K-row)) (p, tt) (v ∷ [])) (ptr_val p ∷ [], tt) $ fjoin t $ s)

  pub looked_case : K → (m : ℕ) (p : Ptr) (v : Option K-row.Denot) (a n : ℕ) → m ≡ terms_mark
      → ((x : K-row.Denot) → v ≡ Some x → Seq K 𝓛 (‵ (part_owns K-row p x a n) ∷ Γ) G)
      → Seq K 𝓛 (‵ (terms_looked m p v a n) ∷ Γ) G
  looked_case t m p None a n e k = fpick t (λ ne. absurd (ne e))
  looked_case t m p (Some x) a n e k = fpick t (λ _. k x refl)

module _ {M : Type 1} {𝓤 : Ura M} {𝓛 : Logic 𝓤} {K : Type 0} {Γ : List (Item 𝓤)} {G : Goal 𝓤 𝓛.H} where
  pub look_out : K → (d : N-row.Denot) (vs : List Val) → d.mark ≡ terms_mark
      → ((x : K-row.Denot) → d.value ≡ Some x → vs ≡ pair d.mark d.at ∷ [] → d.mark < 2 ^ 64
      → Seq K 𝓛 (‵ (part_owns K-row d.at x d.round d.count) ∷ Γ) G)
      → Seq K 𝓛 (‵ (N-row.own_val d vs) ∷ Γ) G
  look_out t d vs em k =
      fsplit t $ fpick t (λ vss. fsplit t $ feq_l t (λ ev. fsplit t $ fsplit t $ feq_l t (λ eu. flt_l t (λ fm. fsplit t $ feq_l t (λ ep.
      drop t $ looked_case t d.mark d.at d.value d.round d.count em (λ x ex. k x ex
      (subst (λ (ps : List Val). vs ≡ vstruct (of_list (vint w64 d.mark ∷ (ps ++ []))) ∷ []) ep
      (subst (λ (us : List Val). vs ≡ vstruct (of_list (us ++ (vss.1.0 ++ []))) ∷ []) eu ev)) fm))))))

  pub look_in : K → (p : Ptr) (x : K-row.Denot) (a n : ℕ)
      → Step K 𝓛 (‵ (N-row.own_val (record { mark = terms_mark; at = p; value = Some x; round = a; count = n }) (pair terms_mark p ∷ [])) ∷ Γ) G
      (‵ (part_owns K-row p x a n) ∷ Γ) G
  look_in t p x a n = step (λ s. let v : Val = pair terms_mark p in
      fpack t (terms_mark ≡ terms_mark) (λ _. part_owns K-row p x a n) refl $
      nothing t $ feq_i t (List Val) (ptr_val p ∷ []) (ptr_val p ∷ []) refl $ fjoin t $
      flt_i t terms_mark (2 ^ 64) (lit< tt) $ feq_i t (List Val) (vint w64 terms_mark ∷ []) (vint w64 terms_mark ∷ []) refl $ fjoin t $ fjoin t $
      feq_i t (List Val) (v ∷ []) (v ∷ []) refl $ fjoin t $
      fpack t (Valss (u64 ∷ RawPtr ∷ [])) (within (shape look.the_type) (intos (look.the_type).parts (terms_mark, (p, tt))) (v ∷ []))
      (vint w64 terms_mark ∷ [], (ptr_val p ∷ [], tt)) $ fjoin t $ s)

  pub shut_in : K
      → Step K 𝓛 (‵ (N-row.own_val (record { mark = 0; at = null_ptr; value = None; round = 0; count = 0 }) (pair 0 null_ptr ∷ [])) ∷ Γ) G Γ G
  shut_in t = step (λ s. let v : Val = pair 0 null_ptr in
      nothing t $ fpack t (0 ≢ terms_mark) (λ _. ftrue) (omega arith) $
      nothing t $ feq_i t (List Val) (ptr_val null_ptr ∷ []) (ptr_val null_ptr ∷ []) refl $ fjoin t $
      flt_i t 0 (2 ^ 64) (lit< tt) $ feq_i t (List Val) (vint w64 0 ∷ []) (vint w64 0 ∷ []) refl $ fjoin t $ fjoin t $
      feq_i t (List Val) (v ∷ []) (v ∷ []) refl $ fjoin t $
      fpack t (Valss (u64 ∷ RawPtr ∷ [])) (within (shape look.the_type) (intos (look.the_type).parts (0, (null_ptr, tt))) (v ∷ []))
      (vint w64 0 ∷ [], (ptr_val null_ptr ∷ [], tt)) $ fjoin t $ s)
