-- `send_rows`: what holds in each turn of its loop.
use Rattle.std.proofs.Common.{ℕ, ◌≡◌, true, List, [], Option}
use Rattle.nms_lines.specs.Layout.{Record}
use Rattle.nms_lines.specs.Records.{ReadsFrom}
use Rattle.nms_feeds.specs.Streams.{IsCounted, IsSentOf}
use Rattle.nms_feeds.proofs.sending.send_rows.Given as goal

-- this was sent for the records read so far
abbrev pub invariant-loop : goal.invariant-loop
invariant-loop g l = record {
  lane : l.sender.lane ≡ l.fn.sender.lane;
  feed : l.sender.feed ≡ l.fn.sender.feed;
  counted : IsCounted l.sender.sent l.counts;
  come : (bytes : Option (List ℕ)) → ReadsFrom g.S.Read.remaining l.fn.reader bytes []
      → (records : List Record) × ReadsFrom g.S.Read.remaining l.reader bytes records
      × IsSentOf l.setup.roster l.fn.sender.feed records l.fn.sender.sent l.sender.sent l.fn.counts l.counts;
  strict : l.strict ≡ true → l.counts.refused ≡ l.fn.counts.refused;
}
