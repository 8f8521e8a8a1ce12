-- `write_symbols`: one line more.
use Rattle.nms_show.specs.Safe.{IsSafe, nothing}
use Rattle.nms_show.proofs.Offered.{adds_none, safe_part, safe_then, writes_err}
use Rattle.nms_import.proofs.telling.write_symbols.Goals as goal

pub loop-span-init : goal.loop-span-init
loop-span-init g c = adds_none IsSafe (g.W.Write.contents c.args.out.now) nothing

pub returns-in_err-write_span : goal.returns-in_err-write_span
returns-in_err-write_span g c = record {
  safe = writes_err IsSafe _ _ c.from_residual.result c.from_residual.ensures.0
      (safe_part _ _ _ c.loop-span.invariant c.in_err-write_span.ensures);
}

pub loop-span-preserved : goal.loop-span-preserved
loop-span-preserved g c = safe_then _ _ _ c.loop-span.invariant c.in_ok-write_span.ensures
