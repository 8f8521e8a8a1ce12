-- `show_each`: what holds in each turn of its loop.
use Rattle.std.proofs.Common.{◌≡◌, ◌++◌, None}
use Rattle.std.specs.List.{flat_map, range_with_len}
use Rattle.nms_quote.specs.Roster.{sizes_of}
use Rattle.nms_quote.specs.Tape.{Tape}
use Rattle.nms_board.specs.Cells.{StandsFor}
use Rattle.nms_lines.specs.Text.{text_of}
use Rattle.nms_stream.specs.Following.{IsOf, Shows, ShowsUpTo}
use Rattle.nms_stream.specs.Stream.{line_between}
use Rattle.nms_stream.proofs.following.show_each.Given as goal

-- the symbols so far were shown as the later tape has them, and their lines were appended
abbrev pub invariant-loop-place : goal.invariant-loop-place
invariant-loop-place l = record {
  board : l.follower.board ≡ l.fn.follower.board;
  of : IsOf (sizes_of l.roster) l.follower;
  shows : (before now : Tape) → StandsFor l.fn.follower.board now → Shows (sizes_of l.roster) None l.fn.follower.shown.items before
      → ShowsUpTo (sizes_of l.roster) before now l.place l.follower.shown.items;
  told : (before now : Tape) → StandsFor l.fn.follower.board now → Shows (sizes_of l.roster) None l.fn.follower.shown.items before
      → l.out.items ≡ l.fn.out.items ++ text_of (flat_map (line_between l.roster before now) (range_with_len 0 l.place));
}
