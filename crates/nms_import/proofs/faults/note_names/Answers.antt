-- `note_names`: at first all names are left.
use Rattle.nms_import.proofs.NameFacts.{names_view}
use Rattle.nms_import.proofs.faults.note_names.Goals as goal

pub loop-name-init : goal.loop-name-init
loop-name-init c = let all_names = names_view c.args.members.now.entries in cc
