-- `explain_records`: the records read so far came, and no more of them were refused than there are; what was written is safe.
use Rattle.std.proofs.Common.{◌≡◌, ◌≤◌, ℕ, List, [], Option}
use Rattle.nms_lines.specs.Layout.{Record}
use Rattle.nms_lines.specs.Records.{ReadsFrom}
use Rattle.nms_explain.specs.Planned.{HaveCome}
use Rattle.nms_explain.specs.Source.{left_of}
use Rattle.nms_show.specs.Safe.{IsSafe}
use Rattle.nms_show.specs.Written.{Adds}
use Rattle.nms_explain.proofs.plan_text.explain_records.Given as goal

abbrev pub invariant-loop-turn : goal.invariant-loop-turn
invariant-loop-turn g l = record {
  turn : l.came.records ≡ l.turn;
  within : l.came.refused ≤ l.came.records;
  come : (bytes : Option (List ℕ)) → ReadsFrom (left_of g.R.Read.remaining) l.fn.reader bytes []
      → (records : List Record) × ReadsFrom (left_of g.R.Read.remaining) l.reader bytes records
      × HaveCome l.asked.roster.now records l.came;
  safe : Adds IsSafe (g.W.Write.contents l.fn.answers) (g.W.Write.contents l.answers);
}
