-- `take_rest`: its loop and its end: the keeping stays the same by `same_then`, and what was sent is what it was given.
use Rattle.std.proofs.Common.{arith, Global, Vec, refl, ap, sym, subst, ◌∙◌}
use Rattle.std.proofs.lemmas.Grind.{common_steps}
use Rattle.nms_quote.specs.Merge.{own_of}
use Rattle.nms_feed.specs.Lane.{lists_of}
use Rattle.nms_feed.specs.declared.not_empty.NotEmpty.{NotEmpty}
use Rattle.nms_feed.specs.declared.sender.Sender.{Sender}
use Rattle.nms_live.specs.Keeping.{HasTaken}
use Rattle.nms_live.proofs.KeeperFacts.{same_self, same_then}
use Rattle.nms_live.proofs.taking.take_rest.Goals as goal

pub loop-init : goal.loop-init
loop-init g c = record { senders = refl; lane = (refl, refl); same = same_self c.args.keeper.now; taken = c.requires.taken }

pub loop-preserved : goal.loop-preserved
loop-preserved g c =
    let inv = c.loop.invariant in
    let back = c.in-Err.ensures.back in
    record {
      senders = ap (λ (e : NotEmpty). e.senders) back ∙ inv.senders;
      lane = (
        c.take_one.ensures.lane.0 ∙ ap (λ (e : NotEmpty). e.taker.lane) back ∙ inv.lane.0,
        c.take_one.ensures.lane.1 ∙ ap (λ (e : NotEmpty). e.taker.senders) back ∙ inv.lane.1,
      );
      same = same_then c.args.keeper.now c.loop.keeper c.take_one.new.keeper inv.same c.take_one.ensures.same;
      taken = c.take_one.ensures.taken (subst (λ (e : NotEmpty). HasTaken c.loop.keeper e.taker.taken) (sym back) inv.taken);
    }

pub returns-in-Ok : goal.returns-in-Ok
returns-in-Ok g c =
    let inv = c.loop.invariant in
    record {
      same = same_then c.args.keeper.now c.loop.keeper c.publish.new.self inv.same c.publish.ensures.same;
      whole = c.publish.ensures.whole;
      merged = λ went.
          let tape = c.publish.ensures.tape went in (
            c.loop.ends.1.taken,
            (λ feed. c.in-Ok.ensures.merged feed ∙ ap (λ (s : Vec Sender Global). own_of feed (lists_of s.items)) inv.senders),
            tape.1 ∙ inv.taken tape.0,
          );
    }

-- ---- goals that `grind` closes; the search that is tried before it takes longer

pub unreachable-requires : goal.unreachable-requires
unreachable-requires g c = grind (arith, common_steps)

pub loop-preserved-derived : goal.loop-preserved-derived
loop-preserved-derived g c = grind (arith, common_steps)

pub loop-init-derived : goal.loop-init-derived
loop-init-derived g c = grind (arith, common_steps)
