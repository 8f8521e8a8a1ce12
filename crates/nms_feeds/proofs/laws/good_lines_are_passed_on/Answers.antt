-- `good_lines_are_passed_on`: by `lines_as_they_stand`.
use Rattle.nms_feeds.proofs.LineLemmas.{lines_as_they_stand}
use Rattle.nms_feeds.proofs.laws.good_lines_are_passed_on.Goals as goal

pub returns : goal.returns
returns c = lines_as_they_stand
