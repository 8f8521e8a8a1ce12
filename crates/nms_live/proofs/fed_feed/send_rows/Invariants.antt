-- `send_rows`: what holds in each turn of its loop: `lane`, `feed`, `count`, `read` and `own`.
use Rattle.std.proofs.Common.{ℕ, ◌≡◌, List, [], length, Some}
use Rattle.nms_lines.specs.Layout.{Record}
use Rattle.nms_lines.specs.Records.{ReadsFrom}
use Rattle.nms_lines.specs.ChangeReading.{IsOwn}
use Rattle.nms_live.specs.Reading.{Says}
use Rattle.std.specs.List.{AllByRecursion}
use Rattle.nms_live.proofs.fed_feed.send_rows.Given as goal

-- the records read so far said the changes that were sent
abbrev pub invariant-loop-index : goal.invariant-loop-index
invariant-loop-index g l = record {
  lane : l.sender.lane ≡ l.fn.sender.lane;
  feed : l.sender.feed ≡ l.fn.sender.feed;
  count : length l.sender.sent ≡ l.index;
  read : (text : List ℕ) → ReadsFrom (λ s. Some s.now) l.fn.reader (Some text) []
      → (records : List Record) × ReadsFrom (λ s. Some s.now) l.reader (Some text) records
      × Says l.setup.roster l.feed records l.sender.sent × (length records ≡ l.index);
  own : AllByRecursion (IsOwn l.setup.roster l.feed) l.sender.sent;
}
