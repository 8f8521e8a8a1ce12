-- `read_names`: the set, by what the names so far say; if a name is not on the roster, all of them say nothing.
use Rattle.std.proofs.Common.{arith, rules, tests, of_calls, ◌≡◌, ◌==◌, ◌∙◌, length, sym, ap}
use Rattle.std.proofs.lemmas.Grind.{common_steps}
use Rattle.std.specs.Prelude.{None, Some}
use Rattle.std.proofs.lemmas.Iterator.Consumers.{YieldsList-end, YieldsList-so_far, YieldsList-turn}
use Rattle.std.proofs.lemmas.Iterator.Splits.{YieldsList-from_slice_split}
use Rattle.nms_quote.specs.Members.{nobody}
use Rattle.nms_quote.specs.Roster.{place_in}
use Rattle.nms_lines.specs.Named.{joined_names, with_named}
use Rattle.nms_lines.proofs.NamedFacts.{below_nobody, below_with, named_stop, named_turn}
use Rattle.nms_lines.proofs.named.read_names.Goals as goal

pub loop-name-init : goal.loop-name-init
unfolding with_named
loop-name-init c = record {
  can_next = search of_calls;
  is_finite = search of_calls;
  below = rw c.none-set.ensures.set (below_nobody (length c.args.roster.now.parts));
  read = ap Some (sym c.none-set.ensures.set);
}

pub returns-in_err-part-clause-set : goal.returns-in_err-part-clause-set
returns-in_err-part-clause-set c =
    let turn = YieldsList-turn (YieldsList-from_slice_split _ (λ byte. byte == 43) c.args.text.now (cc) (cc) (cc)
    (λ x r q k. search (rules, tests)))
    c.loop-name.yielded _ c.loop-name.yielded_by _ _ c.in-Some.name c.in-Some.is c.next.ensures.steps in
    let so_far = YieldsList-so_far (YieldsList-from_slice_split _ (λ byte. byte == 43) c.args.text.now (cc) (cc) (cc)
    (λ x r q k. search (rules, tests)))
    c.loop-name.yielded _ c.loop-name.yielded_by in
    let none : place_in c.args.roster.now.parts c.in-Some.name.now ≡ None = search rules in
    c.from_residual.ensures ∙ sym (named_stop c.args.roster.now (joined_names c.args.text.now) (length c.loop-name.yielded)
    c.in-Some.name.now c.loop-name.set turn.0 turn.1
    (ap (λ names. with_named c.args.roster.now names nobody) (sym so_far) ∙ c.loop-name.invariant.read) none)

pub loop-name-preserved : goal.loop-name-preserved
loop-name-preserved c = record {
  can_next = search of_calls;
  is_finite = search of_calls;
  below = rw c.with-set.ensures.set (below_with (length c.args.roster.now.parts) c.loop-name.set c.in_ok-part.part
      c.loop-name.invariant.below (search rules));
  read = rw c.with-set.ensures.set (named_turn (λ x. x.now) c.args.roster.now c.loop-name.yielded c.in-Some.name c.loop-name.set
      c.in_ok-part.part c.loop-name.invariant.read (search rules));
}

pub returns-clause-set : goal.returns-clause-set
returns-clause-set c =
    let end = YieldsList-end (YieldsList-from_slice_split _ (λ byte. byte == 43) c.args.text.now (cc) (cc) (cc)
    (λ x r q k. search (rules, tests)))
    c.loop-name.yielded _ c.loop-name.yielded_by _ _ c.in-None.is c.next.ensures.steps in
    sym c.loop-name.invariant.read ∙ ap (λ names. with_named c.args.roster.now names nobody) end.0

-- ---- goals that `grind` closes; the search that is tried before it takes longer

pub returns-clause-there : goal.returns-clause-there
returns-clause-there c = grind (arith, common_steps)

pub returns-in_err-part-clause-there : goal.returns-in_err-part-clause-there
returns-in_err-part-clause-there c = grind (arith, common_steps)
