-- `write_text`: clauses `written` and `part` and the turns of its loop, by `failed_part`, `more_within`,
-- `more_written` and `part_written`.
use Rattle.std.proofs.Common.{arith, subst}
use Rattle.std.proofs.lemmas.Grind.{common_steps}
use Rattle.std.proofs.lemmas.List.{take_all}
use Rattle.std.specs.Io.KnownBytes.{Appends}
use Rattle.csv.proofs.WriteFacts.{appends-none}
use Rattle.nms_lines.proofs.WrittenFacts.{failed_part, more_within, more_written, part_written}
use Rattle.nms_lines.proofs.text_writing.write_text.Goals as goal

pub loop-init : goal.loop-init
loop-init g c = record { within = omega arith; written = appends-none (g.W.Write.contents c.args.writer.now) }

pub returns-then-done-text-clause-written : goal.returns-then-done-text-clause-written
returns-then-done-text-clause-written g c =
    subst (Appends (g.W.Write.contents c.args.writer.now) (g.W.Write.contents c.loop.writer))
    (take_all c.loop.done c.args.text.now (omega (arith, c.if-done-text.true))) c.loop.invariant.written

pub returns-in_err-done-clause-part : goal.returns-in_err-done-clause-part
returns-in_err-done-clause-part g c =
    failed_part _ _ _ _ c.args.text.now c.loop.done c.loop.invariant.written c.in_err-done.ensures.taken

pub loop-preserved : goal.loop-preserved
loop-preserved g c = record {
  within = more_within c.args.text.now c.loop.done c.in_ok-done.field-0 c.loop.invariant.within c.in_ok-done.ensures.bound;
  written = more_written _ _ _ c.args.text.now c.loop.done c.in_ok-done.field-0 c.loop.invariant.written c.in_ok-done.ensures.taken;
}

pub returns-clause-part : goal.returns-clause-part
returns-clause-part g c = part_written _ _ c.args.text.now c.loop.done c.loop.invariant.written

-- ---- goals that `grind` closes; the search that is tried before it takes longer

pub overflow_add-done : goal.overflow_add-done
overflow_add-done g c = grind (arith, common_steps)
