-- `shut` makes a look that owns nothing.
use Rattle.std.proofs.Common.{◌≡◌, [], ◌∷◌, refl, lit<, Option, None}
use mir.Val.{Val}
use base.Logic.{SProp, emp}
use base.Fml.{ftrue}
use types.Kit.{‵, raw, ◌⊛◌, ◌$◌, ◌∵◌, !, qed, by, keep, split, use0}
use types.Run.{lit, no_more, and_then, returns, enter}
use types.ByLocal.{alloc_all, pass_all, free_all, look_at, sets}
use types.Part.{agg}
use contract.Monad.{fact, fact_i}
use contract.Running.{tables}
use denote.RattleType.{owns}
use denote.Signature.{types_at}
use denote.RawPtr.{null_ptr}
use denote.Steps.{nothing}
use denote.Triple.Walked.{Stays, walk_of}
use Rattle.std.proofs.raw_atomic.Walks.{proved_at, leaves}
use Rattle.nms_calls.specs.Opened.{Opened}
use Rattle.nms_c.proofs.LookValues.{pair, pair_good, shut_in}
use Rattle.nms_c.specs.contracts.look.NmsLook.shut.{ended, clauses}
use Rattle.nms_c.specs.contracts.look.NmsLook.shut.Key.{name as #self}
use Rattle.nms_c.proofs.look.NmsLook.shut.Statement.{statement}
use Rattle.nms_c.proofs.look.NmsLook.shut.Code as code

abbrev stayed : Stays ended.signature.params ended.kept
stayed = tt

pub shut_spec : {M : Type 1} → statement M
shut_spec 𝓤 𝓛 𝓜 𝓡 wired =
    let H = 𝓛.H in let 𝓣 = tables 𝓤 H 𝓜 𝓡 𝓡.env in let c = clauses 𝓛 𝓜.mem 𝓡.returns in let fn = code.function in
    proved_at 𝓛 ended stayed c 𝓜 𝓡 tt #self fn (code.unfolded 𝓤 H 𝓜 𝓡 wired) (λ z are.
    let Post : Val → SProp 𝓤 = (walk_of 𝓛 ended stayed c).post z in let none : Option Opened = None in let Told : Type 0 = (0 ≡ 0) × (none ≡ none)
    in
    let asked = raw ((c z.0.0 z.0.3).requires z.1) in
    qed 𝓛 ((‵ ftrue ⊛ ‵ (owns (types_at ended.signature.params z.0.0) z.0.3 z.0.4)) ∷ asked ∷ []) ∵ split ! $
    enter ! 𝓣.C 𝓣.Λ fn [] Post $ alloc_all ! (λ l. pass_all ! refl tt $
    sets ! (agg ! (and_then ! (lit ! tt) (and_then ! (lit ! tt) (no_more !)))) refl (pair_good 0 null_ptr (lit< tt)) $ shut_in ! $
    use0 𝓛 (raw (fact 𝓤 Told)) (fact_i 𝓤 Told (emp 𝓤) (refl, refl)) $ nothing ! $
    returns ! (look_at ! 0 refl) $ free_all ! refl $ keep ! (3 ∷ 0 ∷ 2 ∷ 1 ∷ []) $
    by ! (leaves 𝓛 ended stayed c z (pair 0 null_ptr) (record { mark = 0; at = null_ptr; value = none; round = 0; count = 0 }) tt tt)))
