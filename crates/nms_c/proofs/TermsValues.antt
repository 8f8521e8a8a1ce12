-- The machine values of the handle of terms, as `Values` has them of a board's. Assumes `Logic`.
use Rattle.std.proofs.Common.{◌≡◌, ◌≢◌, ◌<◌, ◌^◌, ℕ, List, [], ◌∷◌, ◌++◌, refl, subst, lit<, w64, Option, Some, None, arith}
use seplogic.Ra.Ura.{Ura}
use mir.Raw.{raw as bare}
use mir.Val.{Val, vint, vptr, vstruct, of_list}
use base.Logic.{never, fst∗}
use base.Fml.{ftrue}
use types.Logic.{Logic, sem}
use types.Kit.{Item, Goal, Seq, Step, step, ‵, ◌$◌, move, drop, fsplit, fjoin, fpick, fpack, feq_i, feq_l, flt_i, flt_l}
use denote.RattleType.{RattleType, Valss}
use denote.Builtin.{RawPtr, u64}
use denote.Memory.{lone}
use denote.RawPtr.{Ptr, block_ptr, null_ptr, ptr_val, in_a_block}
use denote.Steps.{nothing}
use denote.Param.{layout}
use denote.Struct.Struct.{within}
use denote.Struct.Owning.{shape}
use denote.Struct.Values.{intos}
use Rattle.core.proofs.alloc.Calls.{handle_tells}
use Rattle.core.proofs.cell.Inside.{Good}
use Rattle.std_alloc.specs.Box.Ownership.{box_owns}
use Rattle.nms_c.specs.contracts.terms.NmsTerms as handle
use Rattle.nms_c.specs.TermsHeld.{terms_held, terms_mark}
use Rattle.nms_fees.specs.contracts.setup.Setup as kept
use Rattle.std.specs.contracts.alloc.Global as global
use Rattle.std.specs.contracts.impls.GlobalAllocator.TheImpl as global_impl
use Rattle.nms_c.proofs.Values.{Z-row, Z-laws, al, three, tok}

abbrev pub K-row : RattleType
K-row = kept.the_row

abbrev pub Held : RattleType
Held = handle.the_row

module _ {M : Type 1} {𝓤 : Ura M} {𝓛 : Logic 𝓤} {K : Type 0} {Γ : List (Item 𝓤)} {G : Goal 𝓤 𝓛.H} where
  pub held_case : K → (m : ℕ) (p : Ptr) (a : Z-row.Denot) (v : Option K-row.Denot) → m ≡ terms_mark
      → ((x : K-row.Denot) → v ≡ Some x → Seq K 𝓛 (‵ (box_owns (tok a) K-row p x) ∷ Γ) G)
      → Seq K 𝓛 (‵ (terms_held m p a v) ∷ Γ) G
  held_case t m p a None e k = fpick t (λ ne. absurd (ne e))
  held_case t m p a (Some x) e k = fpick t (λ _. k x refl)

module _ {M : Type 1} {𝓤 : Ura M} {𝓛 : Logic 𝓤} {K : Type 0} {Γ : List (Item 𝓤)} {G : Goal 𝓤 𝓛.H} where
  pub held_out : K → (d : Held.Denot) (vs : List Val) → d.mark ≡ terms_mark
      → ((b o : ℕ) (h : Val) (x : K-row.Denot) → d.value ≡ Some x → d.at ≡ block_ptr b o → vs ≡ three d.mark (vptr b o) h ∷ [] → d.mark <
      2 ^ 64 → Good (layout Z-row) h → Seq K 𝓛 (‵ (box_owns (tok d.alloc) K-row (block_ptr b o) x) ∷ ‵ (Z-row.own_val d.alloc (h ∷ [])) ∷
      Γ) G)
      → Seq K 𝓛 (‵ (Held.own_val d vs) ∷ Γ) G
  held_out t d vs em k =
      fsplit t $ fpick t (λ vss. fsplit t $ feq_l t (λ ev. fsplit t $ fsplit t $ feq_l t (λ eu. flt_l t (λ fm. fsplit t $ feq_l t (λ ep.
      fsplit t $ handle_tells (al K-row Z-row Z-laws global_impl.ghosts) t d.alloc vss.1.1.0 (λ h ea fits. move t (1 ∷ []) $ drop t $
      move t (1 ∷ []) $
      held_case t d.mark d.at d.alloc d.value em (λ x ex.
      in_a_block t d.at (λ p. box_owns (tok d.alloc) K-row p x) (fst∗ 𝓤 (never 𝓤) (sem 𝓛 (tok d.alloc (bare (lone K-row.mir)) null_ptr)))
      (λ b o e. k b o h x ex e
      (subst (λ (p : Ptr). vs ≡ vstruct (of_list (vint w64 d.mark ∷ ptr_val p ∷ h ∷ [])) ∷ []) e
      (subst (λ (ws : List Val). vs ≡ vstruct (of_list (vint w64 d.mark ∷ ptr_val d.at ∷ (ws ++ []))) ∷ []) ea
      (subst (λ (ps : List Val). vs ≡ vstruct (of_list (vint w64 d.mark ∷ (ps ++ (vss.1.1.0 ++ [])))) ∷ []) ep
      (subst (λ (us : List Val). vs ≡ vstruct (of_list (us ++ (vss.1.0 ++ (vss.1.1.0 ++ [])))) ∷ []) eu ev)))) fm fits))))))))

  pub held_in : K → (b o : ℕ) (h : Val) (a : Z-row.Denot) (x : K-row.Denot)
      → Step K 𝓛 (‵ (Held.own_val (record { mark = terms_mark; at = block_ptr b o; alloc = a; value = Some x }) (three terms_mark (vptr b
      o) h ∷ [])) ∷ Γ) G (‵ (box_owns (tok a) K-row (block_ptr b o) x) ∷ ‵ (Z-row.own_val a (h ∷ [])) ∷ Γ) G
  held_in t b o h a x = step (λ s. let v : Val = three terms_mark (vptr b o) h in
      fpack t (terms_mark ≡ terms_mark) (λ _. box_owns (tok a) K-row (block_ptr b o) x) refl $
      nothing t $ move t (2 ∷ 0 ∷ []) $ fjoin t $ feq_i t (List Val) (vptr b o ∷ []) (vptr b o ∷ []) refl $ fjoin t $
      flt_i t terms_mark (2 ^ 64) (lit< tt) $ feq_i t (List Val) (vint w64 terms_mark ∷ []) (vint w64 terms_mark ∷ []) refl $ fjoin t $
      fjoin t $
      feq_i t (List Val) (v ∷ []) (v ∷ []) refl $ fjoin t $
      fpack t (Valss (u64 ∷ RawPtr ∷ (global.the_field).row ∷ [])) (within (shape handle.the_type) (intos (handle.the_type).parts
      (terms_mark, (block_ptr b o, (a, tt)))) (v ∷ [])) (vint w64 terms_mark ∷ [], (vptr b o ∷ [], (h ∷ [], tt))) $ fjoin t $ s)

  pub shut_in : K → (h : Val) (a : Z-row.Denot)
      → Step K 𝓛 (‵ (Held.own_val (record { mark = 0; at = null_ptr; alloc = a; value = None }) (three 0 (vint w64 0) h ∷ [])) ∷ Γ) G (‵
      (Z-row.own_val a (h ∷ [])) ∷ Γ) G
  shut_in t h a = step (λ s. let v : Val = three 0 (vint w64 0) h in
      nothing t $ fpack t (0 ≢ terms_mark) (λ _. ftrue) (omega arith) $
      nothing t $ move t (2 ∷ 0 ∷ []) $ fjoin t $ feq_i t (List Val) (vint w64 0 ∷ []) (vint w64 0 ∷ []) refl $ fjoin t $
      flt_i t 0 (2 ^ 64) (lit< tt) $ feq_i t (List Val) (vint w64 0 ∷ []) (vint w64 0 ∷ []) refl $ fjoin t $ fjoin t $
      feq_i t (List Val) (v ∷ []) (v ∷ []) refl $ fjoin t $
      fpack t (Valss (u64 ∷ RawPtr ∷ (global.the_field).row ∷ [])) (within (shape handle.the_type) (intos (handle.the_type).parts (
        0,
        (null_ptr, (a, tt)),
      )) (v ∷ [])) (vint w64 0 ∷ [], (vint w64 0 ∷ [], (h ∷ [], tt))) $ fjoin t $ s)
