-- `explain_changes`: each record that is read there is a change.
use Rattle.nms_lines.specs.ChangeReading.{change_reading}
use Rattle.nms_lines.specs.Lines.{reading}
use Rattle.nms_lines.specs.declared.line.Reading.TheVariants as read_as
use Rattle.nms_explain.proofs.CountFacts.{ends_same}
use Rattle.nms_explain.proofs.ReadingFacts.{changes_agree}
use Rattle.nms_explain.proofs.changes.explain_changes.Goals as goal

pub returns-clause-ending : goal.returns-clause-ending
returns-clause-ending g c =
    ends_same (reading c.args.setup.now.roster read_as.Changes) (change_reading c.args.setup.now.roster)
    (changes_agree c.args.setup.now.roster) (g.R.Read.remaining c.args.source) c.explain_file.result c.explain_file.ensures.ending
