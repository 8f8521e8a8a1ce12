-- `part_by_desk`: its loop (the turns by `numbered_more` and `own_more`), what it calls and its last return.
use Rattle.std.proofs.Common.{arith, ◌+◌, ◌<◌, List, take, sym, subst, ◌∙◌, rules}
use Rattle.std.proofs.lemmas.Grind.{common_steps}
use Rattle.std.proofs.lemmas.List.{take_all}
use Rattle.nms_quote.specs.declared.desk_order.DeskOrder.{DeskOrder}
use Rattle.nms_live.specs.Answering.{AreOwn}
use Rattle.nms_live.proofs.AnswerFacts.{numbered_more}
use Rattle.nms_live.proofs.OwnFacts.{own_more}
use Rattle.nms_live.proofs.own_orders.part_by_desk.Goals as goal

pub loop-place-preserved : goal.loop-place-preserved
loop-place-preserved c =
    let at = c.loop-place in
    let order = c.index-orders-place.result in
    let orders = c.args.orders.now in
    record {
      all = c.put_behind.ensures.len ∙ at.invariant.all;
      own = own_more (take at.place orders) (take (at.place + 1) orders) at.place order at.rows.items c.put_behind.new.rows.items
          (numbered_more orders at.place order c.loop-place-test.true (sym c.index-orders-place.is))
          c.put_behind.ensures.len c.put_behind.ensures.others (c.put_behind.ensures.own (search rules)) at.invariant.own;
    }

pub loop-place-init : goal.loop-place-init
loop-place-init c = record { all = c.in_ok-rows.ensures.all; own = c.in_ok-rows.ensures.own }

pub put_behind-requires : goal.put_behind-requires
put_behind-requires c =
    let at = c.loop-place in
    let order = c.index-orders-place.result in
    record {
      place = rw at.invariant.all (subst (λ (o : DeskOrder). o.desk < c.args.desks) (sym c.index-orders-place.is)
          (c.requires.desks at.place order c.loop-place-test.true));
    }

pub returns : goal.returns
returns c =
    let at = c.loop-place in
    record {
      all = at.invariant.all;
      own = subst (λ (o : List DeskOrder). AreOwn o at.rows.items) (take_all at.place c.args.orders.now c.loop-place-test.false)
          at.invariant.own;
    }

-- ---- goals that `grind` closes; the search that is tried before it takes longer

pub returns-in_err-rows-clause-own : goal.returns-in_err-rows-clause-own
returns-in_err-rows-clause-own c = grind (arith, common_steps)

pub returns-in_err-rows-clause-all : goal.returns-in_err-rows-clause-all
returns-in_err-rows-clause-all c = grind (arith, common_steps)
