-- `fill`: clause `end`: what is ready is not nothing, or the stream has ended.
use Rattle.std.proofs.Common.{◌≡◌, length, [], ap, refl, sym, subst, arith}
use Rattle.std.specs.Io.KnownBytes.{IsAtEnd}
use Rattle.nms_whole.specs.Held.{lines_left, ready_of}
use Rattle.nms_whole.specs.declared.whole_lines.WholeLines.{WholeLines}
use Rattle.nms_whole.proofs.whole_lines.WholeLines.fill.Goals.{then-not-is_empty-via-then-not-is_empty}
use Rattle.nms_whole.proofs.whole_lines.WholeLines.fill.Goals.{then-not-is_empty-via-else-not-is_empty+in_ok-read_more+then-branch-eq0}
use Rattle.nms_whole.proofs.whole_lines.WholeLines.fill.Goals as goal

pub returns-then-not-is_empty-clause-end : goal.returns-then-not-is_empty-clause-end
returns-then-not-is_empty-clause-end g c empty = elim c.then-not-is_empty.branch [
  | then-not-is_empty-via-then-not-is_empty w ↦
      let none = ap length (rw w.self-is at empty) in
      absurd (omega (arith, none, w.if-not-is_empty.ensures.some refl))
  | then-not-is_empty-via-else-not-is_empty+in_ok-read_more+then-branch-eq0 w ↦
      subst (λ (s : WholeLines g.row.R.Denot). ready_of s.held ≡ [] → IsAtEnd (lines_left g.R.Read.remaining s)) (sym w.self-is)
      (w.in_ok-read_more.ensures.end w.if-branch-eq0.true) empty
]
