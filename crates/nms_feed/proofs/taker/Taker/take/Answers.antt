-- `take`: the rule stays when a change is taken, by `takes`.
use Rattle.std.proofs.Common.{arith, ◌++◌, ◌∷◌, [], ap, sym, ◌∙◌}
use Rattle.nms_quote.specs.declared.change.Change.{Change}
use Rattle.std.proofs.lemmas.Grind.{common_steps}
use Rattle.nms_feed.specs.Known.{taken_in}
use Rattle.nms_feed.specs.Lane.{Taking}
use Rattle.nms_feed.proofs.Moves.{takes}
use Rattle.nms_feed.proofs.taker.Taker.take.Goals as goal

pub pop_as-requires-clause-rule : goal.pop_as-requires-clause-rule
pop_as-requires-clause-rule g c = rw c.self.invariant.1.one (takes _ _ _, λ items views kept at. tt)

pub returns-clause-taken : goal.returns-clause-taken
returns-clause-taken g c =
    let marked = c.in_ok-marked.marked in
    let was = c.self.view_is in (
      marked.feed,
      λ i. record {
        lane = (c.pop_as.ensures.queue.0 ∙ ap (λ (t : Taking). t.lane) was) i;
        senders = (was i).senders;
        taken = (ap taken_in c.in_ok-marked.ensures.rule.0 ∙ ap (λ (t : Taking). t.taken ++ marked ∷ []) was
            ∙ ap (λ (change : Change). c.args.self.now.taken ++ record { feed = marked.feed; change = change } ∷ [])
            (sym c.change.ensures.change)) i;
      },
    )

-- ---- goals that `grind` closes; the search that is tried before it takes longer

pub invariant_of-self-2 : goal.invariant_of-self-2
invariant_of-self-2 g c = grind (arith, common_steps)

pub returns-in_err-marked-clause-unchanged : goal.returns-in_err-marked-clause-unchanged
returns-in_err-marked-clause-unchanged g c = grind (arith, common_steps)

pub returns-in_err-marked-clause-taken : goal.returns-in_err-marked-clause-taken
returns-in_err-marked-clause-taken g c = grind (arith, common_steps)

pub invariant_of-self : goal.invariant_of-self
invariant_of-self g c = grind (arith, common_steps)
