-- The machine values of a `Loose` and of a handle. Assumes `Logic`.
use Rattle.std.proofs.Common.{◌≡◌, ◌≢◌, ◌<◌, ◌^◌, ℕ, List, [], ◌∷◌, ◌++◌, refl, subst, lit<, w64, Option, Some, None, arith}
use mathlib.Core.Bool.{Bool, true, false, ◌&&◌}
use lib.Dec.{T}
use seplogic.Ra.Ura.{Ura}
use mir.Syntax.{impl, tnil, dnil}
use mir.Raw.{raw as bare}
use mir.Val.{Val, vint, vptr, vstruct, vcons, vnil, of_list, has_ty, WT}
use base.Logic.{never, fst∗}
use base.Fml.{ftrue}
use types.Logic.{Logic, sem}
use types.Kit.{Item, Goal, Seq, Step, step, ‵, ◌$◌, move, drop, fsplit, fjoin, fpick, fpack, feq_i, feq_l, flt_i, flt_l}
use denote.RattleType.{RattleType, Valss}
use denote.Builtin.{RawPtr, u64}
use denote.Memory.{lone}
use denote.RawPtr.{Ptr, block_ptr, null_ptr, ptr_val, in_a_block}
use denote.Steps.{nothing}
use denote.Param.{layout}
use denote.Param.Laws.{Laws}
use denote.Struct.Struct.{within}
use denote.Struct.Owning.{shape}
use denote.Struct.Values.{intos}
use Rattle.core.specs.declared.alloc.Allocator.{Ghosts}
use Rattle.core.proofs.alloc.Calls.{Al, handle_tells}
use Rattle.core.proofs.cell.Inside.{Good}
use Rattle.std_alloc.specs.Box.Ownership.{box_owns}
use Rattle.std_alloc.proofs.ResultValues.{and_tt}
use Rattle.nms_c.specs.contracts.loose.Loose as loose
use Rattle.nms_c.specs.contracts.handle.NmsBoard as handle
use Rattle.nms_c.specs.Held.{held, open_mark}
use Rattle.nms_calls.specs.contracts.open_board.OpenBoard as kept
use Rattle.std.specs.contracts.alloc.Global as global
use Rattle.std.proofs.alloc.Global.TheLaws as global_laws
use Rattle.std.specs.contracts.impls.GlobalAllocator.TheImpl as global_impl

abbrev pub both : Val → Val → Val
both v w = vstruct (vcons v (vcons w vnil))

pub both_tt : (x y : Bool) → T x → T y → T (x && (y && true))
both_tt true true s t = tt
both_tt true false s t = absurd t
both_tt false y s t = absurd s

module _ (R Z : RattleType) (L : Laws Z) (g : Ghosts Z.Denot) where
  abbrev pub Loose : RattleType
  Loose = loose.the_row R Z g

  abbrev pub al : Al
  al = record { row = Z; laws = L; g = g; d = impl [] tnil dnil; drops = impl [] tnil dnil }

  pub loose_good : (b o : ℕ) (h : Val) → Good (layout Z) h → T (has_ty (layout Z) h && true) × WT (both (vptr b o) h)
  loose_good b o h fits = (and_tt (has_ty (layout Z) h) fits.0, (tt, (fits.1, tt)))

  module _ {M : Type 1} {𝓤 : Ura M} {𝓛 : Logic 𝓤} {K : Type 0} {Γ : List (Item 𝓤)} {G : Goal 𝓤 𝓛.H} where
    pub loose_out : K → (d : Loose.Denot) (vs : List Val)
        → ((b o : ℕ) (h : Val) → d.at ≡ block_ptr b o → vs ≡ both (vptr b o) h ∷ [] → Good (layout Z) h → Seq K 𝓛 (‵ (box_owns
        (g.dealloc_token d.alloc) R (block_ptr b o) d.value) ∷ ‵ (Z.own_val d.alloc (h ∷ [])) ∷ Γ) G)
        → Seq K 𝓛 (‵ (Loose.own_val d vs) ∷ Γ) G
    loose_out t d vs k =
        fsplit t $ fpick t (λ vss. fsplit t $ feq_l t (λ ev. fsplit t $ feq_l t (λ ep. fsplit t $ handle_tells al t d.alloc vss.1.0 (λ h
        ea fits. move t (1 ∷ []) $ drop t $ move t (1 ∷ []) $
        in_a_block t d.at (λ p. box_owns (g.dealloc_token d.alloc) R p d.value) (fst∗ 𝓤 (never 𝓤) (sem 𝓛 (g.dealloc_token d.alloc (bare
        (lone R.mir)) null_ptr))) (λ b o e. k b o h e
        (subst (λ (p : Ptr). vs ≡ vstruct (of_list (ptr_val p ∷ h ∷ [])) ∷ []) e
        (subst (λ (ws : List Val). vs ≡ vstruct (of_list (ptr_val d.at ∷ (ws ++ []))) ∷ []) ea (subst (λ (ps : List Val). vs ≡ vstruct
        (of_list (ps ++ (vss.1.0 ++ []))) ∷ []) ep ev))) fits)))))

    pub loose_in : K → (b o : ℕ) (h : Val) (a : Z.Denot) (x : R.Denot)
        → Step K 𝓛 (‵ (Loose.own_val (record { at = block_ptr b o; alloc = a; value = x }) (both (vptr b o) h ∷ [])) ∷ Γ) G (‵ (box_owns
        (g.dealloc_token a) R (block_ptr b o) x) ∷ ‵ (Z.own_val a (h ∷ [])) ∷ Γ) G
    loose_in t b o h a x = step (λ s. let v : Val = both (vptr b o) h in
        nothing t $ move t (2 ∷ 0 ∷ []) $ fjoin t $ feq_i t (List Val) (vptr b o ∷ []) (vptr b o ∷ []) refl $ fjoin t $ feq_i t (List
        Val) (v ∷ []) (v ∷ []) refl $ fjoin t $
        fpack t (Valss (RawPtr ∷ Z ∷ [])) (within (shape (loose.the_type R Z g)) (block_ptr b o, (a, tt)) (v ∷ [])) (
          vptr b o ∷ [],
          (
            h ∷
                [],
            tt,
          ),
        ) $ fjoin t $ s)

-- the handle that C keeps: the same two fields, with a plainer type for the pointer

abbrev pub K-row : RattleType
K-row = kept.the_row

abbrev pub Z-row : RattleType
Z-row = global.the_row

abbrev pub Z-laws : Laws Z-row
Z-laws = global_laws.the_row_laws

abbrev pub Held : RattleType
Held = handle.the_row

abbrev pub three : ℕ → Val → Val → Val
three m v w = vstruct (vcons (vint w64 m) (vcons v (vcons w vnil)))

abbrev pub tok : Z-row.Denot → mir.Syntax.Ty → Ptr → base.Fml.Fml
tok a = (global_impl.ghosts).dealloc_token a

pub held_good : (m b o : ℕ) (h : Val) → m < 2 ^ 64 → Good (layout Z-row) h → T (has_ty (layout Z-row) h && true) × WT (three m (vptr b o) h)
held_good m b o h fm fits = (and_tt (has_ty (layout Z-row) h) fits.0, (record { fits = fm }, (tt, (fits.1, tt))))

module _ {M : Type 1} {𝓤 : Ura M} {𝓛 : Logic 𝓤} {K : Type 0} {Γ : List (Item 𝓤)} {G : Goal 𝓤 𝓛.H} where
  pub held_case : K → (m : ℕ) (p : Ptr) (a : Z-row.Denot) (v : Option K-row.Denot) → m ≡ open_mark
      → ((x : K-row.Denot) → v ≡ Some x → Seq K 𝓛 (‵ (box_owns (tok a) K-row p x) ∷ Γ) G)
      → Seq K 𝓛 (‵ (held m p a v) ∷ Γ) G
  held_case t m p a None e k = fpick t (λ ne. absurd (ne e))
  held_case t m p a (Some x) e k = fpick t (λ _. k x refl)

module _ {M : Type 1} {𝓤 : Ura M} {𝓛 : Logic 𝓤} {K : Type 0} {Γ : List (Item 𝓤)} {G : Goal 𝓤 𝓛.H} where
  pub held_out : K → (d : Held.Denot) (vs : List Val) → d.mark ≡ open_mark
      → ((b o : ℕ) (h : Val) (x : K-row.Denot) → d.value ≡ Some x → d.at ≡ block_ptr b o → vs ≡ three d.mark (vptr b o) h ∷ [] → d.mark <
      2 ^ 64 → Good (layout Z-row) h → Seq K 𝓛 (‵ (box_owns (tok d.alloc) K-row (block_ptr b o) x) ∷ ‵ (Z-row.own_val d.alloc (h ∷ [])) ∷
      Γ) G)
      → Seq K 𝓛 (‵ (Held.own_val d vs) ∷ Γ) G
  held_out t d vs em k =
      fsplit t $ fpick t (λ vss. fsplit t $ feq_l t (λ ev. fsplit t $ fsplit t $ feq_l t (λ eu. flt_l t (λ fm. fsplit t $ feq_l t (λ ep.
      fsplit t $ handle_tells (al K-row Z-row Z-laws global_impl.ghosts) t d.alloc vss.1.1.0 (λ h ea fits. move t (1 ∷ []) $ drop t $
      move t (1 ∷ []) $
      held_case t d.mark d.at d.alloc d.value em (λ x ex.
      in_a_block t d.at (λ p. box_owns (tok d.alloc) K-row p x) (fst∗ 𝓤 (never 𝓤) (sem 𝓛 (tok d.alloc (bare (lone K-row.mir)) null_ptr)))
      (λ b o e. k b o h x ex e
      (subst (λ (p : Ptr). vs ≡ vstruct (of_list (vint w64 d.mark ∷ ptr_val p ∷ h ∷ [])) ∷ []) e
      (subst (λ (ws : List Val). vs ≡ vstruct (of_list (vint w64 d.mark ∷ ptr_val d.at ∷ (ws ++ []))) ∷ []) ea
      (subst (λ (ps : List Val). vs ≡ vstruct (of_list (vint w64 d.mark ∷ (ps ++ (vss.1.1.0 ++ [])))) ∷ []) ep
      (subst (λ (us : List Val). vs ≡ vstruct (of_list (us ++ (vss.1.0 ++ (vss.1.1.0 ++ [])))) ∷ []) eu ev)))) fm fits))))))))

  pub held_in : K → (b o : ℕ) (h : Val) (a : Z-row.Denot) (x : K-row.Denot)
      → Step K 𝓛 (‵ (Held.own_val (record { mark = open_mark; at = block_ptr b o; alloc = a; value = Some x }) (three open_mark (vptr b
      o) h ∷ [])) ∷ Γ) G (‵ (box_owns (tok a) K-row (block_ptr b o) x) ∷ ‵ (Z-row.own_val a (h ∷ [])) ∷ Γ) G
  held_in t b o h a x = step (λ s. let v : Val = three open_mark (vptr b o) h in
      fpack t (open_mark ≡ open_mark) (λ _. box_owns (tok a) K-row (block_ptr b o) x) refl $
      nothing t $ move t (2 ∷ 0 ∷ []) $ fjoin t $ feq_i t (List Val) (vptr b o ∷ []) (vptr b o ∷ []) refl $ fjoin t $
      flt_i t open_mark (2 ^ 64) (lit< tt) $ feq_i t (List Val) (vint w64 open_mark ∷ []) (vint w64 open_mark ∷ []) refl $ fjoin t $
      fjoin t $
      feq_i t (List Val) (v ∷ []) (v ∷ []) refl $ fjoin t $
      fpack t (Valss (u64 ∷ RawPtr ∷ (global.the_field).row ∷ [])) (within (shape handle.the_type) (intos (handle.the_type).parts
      (open_mark, (block_ptr b o, (a, tt)))) (v ∷ [])) (vint w64 open_mark ∷ [], (vptr b o ∷ [], (h ∷ [], tt))) $ fjoin t $ s)

  pub shut_in : K → (h : Val) (a : Z-row.Denot)
      → Step K 𝓛 (‵ (Held.own_val (record { mark = 0; at = null_ptr; alloc = a; value = None }) (three 0 (vint w64 0) h ∷ [])) ∷ Γ) G (‵
      (Z-row.own_val a (h ∷ [])) ∷ Γ) G
  shut_in t h a = step (λ s. let v : Val = three 0 (vint w64 0) h in
      nothing t $ fpack t (0 ≢ open_mark) (λ _. ftrue) (omega arith) $
      nothing t $ move t (2 ∷ 0 ∷ []) $ fjoin t $ feq_i t (List Val) (vint w64 0 ∷ []) (vint w64 0 ∷ []) refl $ fjoin t $
      flt_i t 0 (2 ^ 64) (lit< tt) $ feq_i t (List Val) (vint w64 0 ∷ []) (vint w64 0 ∷ []) refl $ fjoin t $ fjoin t $
      feq_i t (List Val) (v ∷ []) (v ∷ []) refl $ fjoin t $
      fpack t (Valss (u64 ∷ RawPtr ∷ (global.the_field).row ∷ [])) (within (shape handle.the_type) (intos (handle.the_type).parts (
        0,
        (null_ptr, (a, tt)),
      )) (v ∷ [])) (vint w64 0 ∷ [], (vint w64 0 ∷ [], (h ∷ [], tt))) $ fjoin t $ s)

pub shut_good : (h : Val) → Good (layout Z-row) h → T (has_ty (layout Z-row) h && true) × WT (three 0 (vint w64 0) h)
shut_good h fits = (and_tt (has_ty (layout Z-row) h) fits.0, (record { fits = lit< tt }, (record { fits = lit< tt }, (fits.1, tt))))
