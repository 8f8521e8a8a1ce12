-- `stream_along`: what holds in each turn of its loop.
use Rattle.std.proofs.Common.{[], ◌∷◌, take}
use Rattle.std.specs.List.{flat_map, range_with_len}
use Rattle.nms_lines.specs.Text.{text_of}
use Rattle.nms_stream.specs.Following.{Follows, IsOf}
use Rattle.nms_stream.specs.Pieces.{Sends}
use Rattle.nms_stream.specs.Stream.{header, lines_behind}
use Rattle.nms_stream.specs.Tapes.{sizes_in}
use Rattle.nms_stream.proofs.streaming.stream_along.Given as goal

-- the follower is after the changes so far, and their lines were sent or wait
abbrev pub invariant-loop-change : goal.invariant-loop-change
invariant-loop-change g l = record {
  of : IsOf (sizes_in l.tape) l.follower;
  follows : Follows (sizes_in l.tape) l.asked l.follower (take l.change-index l.tape.changes.items);
  sends : Sends (g.W.Write.contents l.fn.writer) (g.W.Write.contents l.writer) []
      (text_of (header ∷ flat_map (lines_behind l.tape.roster.now l.asked l.tape.changes.items) (range_with_len 0 l.change-index))) l.out.items;
}
