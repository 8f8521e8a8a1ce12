-- `unknown_name`: the first name that is not on the roster, by what the names so far say.
use Rattle.std.proofs.Common.{arith, rules, tests, of_calls, ◌≡◌, ◌==◌, ◌∙◌, ◌∷◌, [], All, length, take, sym, ap, subst, length-append}
use Rattle.std.specs.Prelude.{IsSome}
use Rattle.std.proofs.lemmas.Iterator.Consumers.{YieldsList-end, YieldsList-so_far, YieldsList-turn}
use Rattle.std.proofs.lemmas.Iterator.Splits.{YieldsList-from_slice_split}
use Rattle.nms_lines.specs.Named.{joined_names}
use Rattle.nms_explain.specs.Names.{IsListed}
use Rattle.nms_explain.proofs.NameListFacts.{found, listed_more, not_found, within}
use Rattle.nms_explain.proofs.places.name_list.unknown_name.Goals as goal

pub returns-then-is_none-clause-first : goal.returns-then-is_none-clause-first
returns-then-is_none-clause-first c =
    let turn = YieldsList-turn (YieldsList-from_slice_split _ (λ byte. byte == 43) c.args.text.now (cc) (cc) (cc)
    (λ x r q k. search (rules, tests)))
    c.loop-name.yielded _ c.loop-name.yielded_by _ _ c.in-Some.name c.in-Some.is c.next.ensures.steps in
    let so_far = YieldsList-so_far (YieldsList-from_slice_split _ (λ byte. byte == 43) c.args.text.now (cc) (cc) (cc)
    (λ x r q k. search (rules, tests)))
    c.loop-name.yielded _ c.loop-name.yielded_by in
    let nth : c.loop-name.nth ≡ length c.loop-name.yielded =
    c.loop-name.invariant.count (within (λ byte. byte == 43) c.args.text.now (length c.loop-name.yielded) turn.0) in
    record {
      there = rw nth turn.0;
      name = c.in-Some.name.now;
      is = rw nth turn.1;
      unknown = sym c.find_part.ensures.place ∙ not_found c.find_part.result c.is_none.result c.is_none.ensures c.if-is_none.true;
      before = subst (All (IsListed c.args.roster.now)) (so_far ∙ ap (λ n. take n (joined_names c.args.text.now)) (sym nth))
          c.loop-name.invariant.listed;
    }

pub loop-name-preserved : goal.loop-name-preserved
loop-name-preserved c = record {
  can_next = search of_calls;
  is_finite = search of_calls;
  most = search rules;
  count = λ below. omega (arith, below, length-append c.loop-name.yielded (c.in-Some.name ∷ []), c.loop-name.invariant.count);
  listed = listed_more (λ x. x.now) c.args.roster.now c.loop-name.yielded c.in-Some.name c.loop-name.invariant.listed
      (subst IsSome c.find_part.ensures.place (found c.find_part.result c.is_none.result c.is_none.ensures c.if-is_none.false));
}

pub loop-name-preserved-then-nth-most : goal.loop-name-preserved-then-nth-most
loop-name-preserved-then-nth-most c = record {
  can_next = search of_calls;
  is_finite = search of_calls;
  most = search rules;
  count = λ below. omega (arith, below, length-append c.loop-name.yielded (c.in-Some.name ∷ []), c.loop-name.invariant.count);
  listed = listed_more (λ x. x.now) c.args.roster.now c.loop-name.yielded c.in-Some.name c.loop-name.invariant.listed
      (subst IsSome c.find_part.ensures.place (found c.find_part.result c.is_none.result c.is_none.ensures c.if-is_none.false));
}

pub returns-clause-none : goal.returns-clause-none
returns-clause-none c =
    let end = YieldsList-end (YieldsList-from_slice_split _ (λ byte. byte == 43) c.args.text.now (cc) (cc) (cc)
    (λ x r q k. search (rules, tests)))
    c.loop-name.yielded _ c.loop-name.yielded_by _ _ c.in-None.is c.next.ensures.steps in
    λ none. subst (All (IsListed c.args.roster.now)) end.0 c.loop-name.invariant.listed
