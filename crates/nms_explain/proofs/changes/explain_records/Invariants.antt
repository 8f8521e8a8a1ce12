-- `explain_records`: the tally of the records read so far, and what was written is safe.
use Rattle.std.proofs.Common.{◌≡◌, ℕ, List, [], Option}
use Rattle.nms_lines.specs.Layout.{Record}
use Rattle.nms_lines.specs.Lines.{reading}
use Rattle.nms_lines.specs.Records.{ReadsFrom}
use Rattle.nms_explain.specs.Counted.{IsTallyOf, IsWithin}
use Rattle.nms_explain.specs.Source.{left_of}
use Rattle.nms_show.specs.Safe.{IsSafe}
use Rattle.nms_show.specs.Written.{Adds}
use Rattle.nms_explain.proofs.changes.explain_records.Given as goal

abbrev pub invariant-loop-turn : goal.invariant-loop-turn
invariant-loop-turn g l = record {
  turn : l.tally.records ≡ l.turn;
  within : IsWithin l.tally;
  counts : (bytes : Option (List ℕ)) → ReadsFrom (left_of g.R.Read.remaining) l.fn.reader bytes []
      → (records : List Record) × ReadsFrom (left_of g.R.Read.remaining) l.reader bytes records
      × IsTallyOf (reading l.asked.roster.now l.asked.from) records l.tally;
  safe : Adds IsSafe (g.W.Write.contents l.fn.answers) (g.W.Write.contents l.answers);
}
