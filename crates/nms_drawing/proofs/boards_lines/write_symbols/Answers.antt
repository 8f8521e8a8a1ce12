-- `write_symbols`: one symbol more.
use Rattle.nms_show.specs.Safe.{IsSafe, nothing}
use Rattle.nms_show.proofs.Offered.{adds_none, safe_part, safe_then, writes_err}
use Rattle.nms_drawing.proofs.boards_lines.write_symbols.Goals as goal

pub loop-place-init : goal.loop-place-init
loop-place-init g c = adds_none IsSafe (g.W.Write.contents c.args.answers.now) nothing

pub returns-in_err-write_symbol : goal.returns-in_err-write_symbol
returns-in_err-write_symbol g c =
    writes_err IsSafe _ _ c.from_residual.result c.from_residual.ensures.0
    (safe_part _ _ _ c.loop-place.invariant c.in_err-write_symbol.ensures)

pub loop-place-preserved : goal.loop-place-preserved
loop-place-preserved g c = safe_then _ _ _ c.loop-place.invariant c.in_ok-write_symbol.ensures
