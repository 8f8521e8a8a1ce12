-- `each_line_is_read_alone`: by `read_alone`.
use Rattle.nms_feeds.proofs.LineLemmas.{read_alone}
use Rattle.nms_feeds.proofs.laws.each_line_is_read_alone.Goals as goal

pub returns : goal.returns
returns c = read_alone
