-- `a_cut_shows_what_the_whole_shows`: all that it promises, by `cut_shows`.
use Rattle.nms_shards.proofs.TapeFacts.{cut_shows}
use Rattle.nms_shards.proofs.laws.a_cut_shows_what_the_whole_shows.Goals as goal

pub returns : goal.returns
returns c = cut_shows c.alike_boards_show_the_same.ensures.now
