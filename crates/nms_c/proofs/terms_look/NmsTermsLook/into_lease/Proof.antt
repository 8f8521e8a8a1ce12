-- `into_lease` takes the pointer out of an open look.
use Rattle.std.proofs.Common.{◌≡◌, List, [], ◌∷◌, ◌++◌, refl, sym, subst, Some}
use mir.Val.{Val}
use base.Logic.{SProp, ent, emp, id⊢}
use base.Fml.{ftrue}
use prog.Wp.{WpFn}
use types.Kit.{‵, raw, ◌⊛◌, ◌$◌, ◌∵◌, !, qed, by, move, keep, split, fsplit, fjoin, suffices, use0}
use types.Run.{stop, fld, of_opd, no_more, and_then, returns, enter}
use types.ByLocal.{alloc_all, pass_all, free_all, look_at, get, get_in, sets}
use types.Part.{agg, sub, whole}
use contract.Monad.{fact, fact_i}
use contract.Running.{tables}
use denote.Exit.{yes}
use denote.RattleType.{owns}
use denote.Signature.{types_at, plain}
use denote.Steps.{nothing, heard}
use denote.Triple.Walked.{Stays, stay_dropped, walk_of}
use Rattle.core.proofs.alloc.Calls.{Goes-blank}
use Rattle.core.proofs.atomic.Steps.{Ptr-Good}
use Rattle.std.proofs.raw_atomic.Walks.{proved_at, leaves}
use Rattle.nms_c.specs.TermsHeld.{terms_mark}
use Rattle.nms_c.proofs.TermsLookValues.{N-row, pair, single, pair_good, single_good, lease_in, look_out}
use Rattle.nms_c.specs.contracts.terms_look.NmsTermsLook.into_lease.{ended, clauses}
use Rattle.nms_c.specs.contracts.terms_look.NmsTermsLook.into_lease.Key.{name as #self}
use Rattle.nms_c.proofs.terms_look.NmsTermsLook.into_lease.Statement.{statement}
use Rattle.nms_c.proofs.terms_look.NmsTermsLook.into_lease.Code as code

abbrev stayed : Stays ended.signature.params ended.kept
stayed = (stay_dropped (plain (λ _. N-row)) yes, tt)

pub into_lease_spec : {M : Type 1} → statement M
into_lease_spec 𝓤 𝓛 𝓜 𝓡 wired =
    let H = 𝓛.H in let 𝓣 = tables 𝓤 H 𝓜 𝓡 𝓡.env in let c = clauses 𝓛 𝓜.mem 𝓡.returns in let fn = code.function in
    proved_at 𝓛 ended stayed c 𝓜 𝓡 (Goes-blank 𝓛 0 (plain (λ _. N-row)) yes (λ κs x f. tt), tt) #self fn (code.unfolded 𝓤 H 𝓜 𝓡 wired) (λ z are.
    let v = z.0.3.0 in let Post : Val → SProp 𝓤 = (walk_of 𝓛 ended stayed c).post z in let Run : List Val → SProp 𝓤 = λ ws. WpFn 𝓤 H 𝓣.C 𝓣.Λ fn ws
    Post in
    qed 𝓛 ((‵ ftrue ⊛ ‵ (owns (types_at ended.signature.params z.0.0) z.0.3 z.0.4)) ∷ raw (fact 𝓤 (v.mark ≡ terms_mark)) ∷ []) ∵ move ! (1 ∷ []) $
    heard ! (v.mark ≡ terms_mark) (λ em.
    split ! $ move ! (1 ∷ []) $ fsplit ! $ look_out ! v z.0.4.0 em (λ x ex ws fm.
    let w : Val = pair v.mark v.at in let Told : Type 0 = (Some x ≡ v.value) × (v.round ≡ v.round) × (v.count ≡ v.count) in
    suffices ! (Run (w ∷ [])) (subst (λ (us : List Val). ent 𝓤 (Run (w ∷ [])) (Run us)) (sym (λ i. ws i ++ [])) (id⊢ 𝓤 (Run (w ∷ [])))) $
    enter ! 𝓣.C 𝓣.Λ fn (w ∷ []) Post $ alloc_all ! (λ l. pass_all ! refl (pair_good v.mark v.at fm, tt) $
    sets ! (of_opd ! (get_in ! (fld ! refl (stop !)) (sub ! 1 refl (whole !)))) refl (Ptr-Good v.at) $
    sets ! (of_opd ! (get ! refl)) refl (Ptr-Good v.at) $ sets ! (agg ! (and_then ! (get ! refl) (no_more !))) refl (single_good v.at) $
    lease_in ! v.at x v.round v.count $
    use0 𝓛 (raw (fact 𝓤 Told)) (fact_i 𝓤 Told (emp 𝓤) (sym ex, refl, refl)) $ nothing ! $ nothing ! $ fjoin ! $
    returns ! (look_at ! 0 refl) $ free_all ! refl $ keep ! (4 ∷ 0 ∷ 2 ∷ 1 ∷ []) $
    by ! (leaves 𝓛 ended stayed c z (single v.at) (record { ptr = v.at; value = x; round = v.round; count = v.count }) (tt, tt) (tt, tt))))))
