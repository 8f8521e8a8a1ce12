-- `a_shard_shows_what_the_whole_shows`: all that it promises, by `shard_shows` and `shard_boards`.
use Rattle.nms_shards.proofs.TapeFacts.{shard_boards, shard_shows}
use Rattle.nms_shards.proofs.laws.a_shard_shows_what_the_whole_shows.Goals as goal

pub returns : goal.returns
returns c = record {
  tapes = shard_shows c.alike_boards_show_the_same.ensures.now;
  boards = shard_boards c.alike_boards_show_the_same.ensures.now;
}
