-- `answer_records`: what holds in each turn of its loop.
use Rattle.std.proofs.Common.{ℕ, ◌≡◌, ◌≤◌, List, [], Option}
use Rattle.nms_quote.specs.Roster.{sizes_of}
use Rattle.nms_lines.specs.Records.{ReadsFrom}
use Rattle.nms_answers.specs.Progress.{HasCome}
use Rattle.nms_answers.specs.Epochs.{KeepsEpochs}
use Rattle.nms_answers.specs.declared.TheConstants.{MOST_REQUESTS}
use Rattle.nms_answers.proofs.request_stream.answer_records.Given as goal

-- the requests so far were answered
abbrev pub invariant-loop-done : goal.invariant-loop-done
invariant-loop-done g l = record {
  come : (bytes : Option (List ℕ)) → ReadsFrom g.R.Read.remaining l.fn.reader bytes []
      → HasCome g.R.Read.remaining l.setup bytes l.reader l.fn.desk l.desk (g.W.Write.contents l.fn.answers) (g.W.Write.contents l.answers)
      l.done l.refused;
  knows : KeepsEpochs l.fn.desk l.desk;
  sizes : l.desk.desk.sizes ≡ sizes_of l.setup.roster;
  few : l.refused ≤ l.done;
  within : l.done ≤ MOST_REQUESTS;
}
