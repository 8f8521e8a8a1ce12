-- `firsts_of`: one change more, by `firsts_more`.
use Rattle.std.proofs.Common.{◌+◌, ◌∙◌, ap, arith, length, refl, slice_get, subst}
use Rattle.std.proofs.lemmas.List.{length-replicate}
use Rattle.nms_trades.specs.Quoted.{IsNotedFirst, is_quotation}
use Rattle.nms_trades.proofs.QuotedFacts.{firsts_all, firsts_more, no_firsts}
use Rattle.nms_trades.proofs.quoted.firsts_of.Goals as goal

pub loop-change-init : goal.loop-change-init
loop-change-init c = record {
  place = refl;
  count = ap length c.in_ok-firsts.ensures ∙ length-replicate c.args.syms (length c.args.changes.now);
  firsts = no_firsts c.args.changes.now c.args.syms c.in_ok-firsts.firsts.items c.in_ok-firsts.ensures;
}

pub loop-change-preserved : goal.loop-change-preserved
loop-change-preserved c = record {
  place = ap (λ n. n + 1) c.loop-change.invariant.place;
  count = c.note_quotation.ensures.count ∙ c.loop-change.invariant.count;
  firsts = firsts_more c.args.changes.now c.loop-change.change-index c.change-item.result c.loop-change.firsts.items
      c.note_quotation.new.firsts.items c.loop-change-test.true c.change-item.is
      (λ symbol. subst (λ n. IsNotedFirst (is_quotation symbol c.change-item.result) n (slice_get c.loop-change.firsts.items symbol)
      (slice_get c.note_quotation.new.firsts.items symbol)) c.loop-change.invariant.place (c.note_quotation.ensures.each symbol))
      c.loop-change.invariant.firsts;
}

pub returns-clause-firsts : goal.returns-clause-firsts
returns-clause-firsts c =
    firsts_all c.args.changes.now c.loop-change.change-index c.loop-change.firsts.items (omega (arith, c.loop-change-test.false))
    c.loop-change.invariant.firsts
