-- `write_items`: one item more.
use Rattle.nms_show.specs.Safe.{IsSafe, nothing}
use Rattle.nms_show.proofs.WriteFacts.{adds_none, safe_part, safe_then, writes_err}
use Rattle.nms_show.proofs.lines.write_items.Goals as goal

pub loop-item-init : goal.loop-item-init
loop-item-init g c = λ own. adds_none IsSafe (g.W.Write.contents c.args.answers.now) nothing

pub returns-in_err-write_item : goal.returns-in_err-write_item
returns-in_err-write_item g c = λ own.
    writes_err IsSafe _ _ c.from_residual.result c.from_residual.ensures.0
    (safe_part _ _ _ (c.loop-item.invariant own) (c.in_err-write_item.ensures (own c.loop-item.item-index _ c.loop-item-test.true)))

pub loop-item-preserved : goal.loop-item-preserved
loop-item-preserved g c = λ own.
    safe_then _ _ _ (c.loop-item.invariant own) (c.in_ok-write_item.ensures (own c.loop-item.item-index _ c.loop-item-test.true))
