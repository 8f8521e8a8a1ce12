-- What a record says if it has to be a change: that of a file of changes, and that of a feed. This product's own rule.
use Rattle.std.specs.Prelude.{◌≡◌, Result, Ok, Err, Some}
use Rattle.nms_quote.specs.Roster.{Listing, feed_of_change}
use Rattle.nms_quote.specs.declared.change.Change.{Change}
use Rattle.nms_quote.specs.declared.feed.Feed.{Feed}
use Rattle.nms_lines.specs.Faults.{◌>>=◌}
use Rattle.nms_lines.specs.Layout.{Record}
use Rattle.nms_lines.specs.Lines.{reading}
use Rattle.nms_lines.specs.declared.line.Line.{Line}
use Rattle.nms_lines.specs.declared.line.Line.TheVariants as line
use Rattle.nms_lines.specs.declared.line.Reading.TheVariants as source
use Rattle.nms_lines.specs.declared.line_fault.LineFault.{LineFault}
use Rattle.nms_lines.specs.declared.line_fault.LineFault.TheVariants as line_fault

-- the change of a line that is one
abbrev pub change_in : Line → Result Change LineFault
change_in (line.Change change) = Ok change
change_in line.TakeOne = Err line_fault.UnknownKind
change_in line.TakeAll = Err line_fault.UnknownKind
change_in line.Publish = Err line_fault.UnknownKind
change_in (line.Tell desk) = Err line_fault.UnknownKind
change_in (line.Best desk sym) = Err line_fault.UnknownKind
change_in (line.Through desk sym price) = Err line_fault.UnknownKind
change_in (line.Sweep desk order) = Err line_fault.UnknownKind

-- what a record of a file of changes says
abbrev pub change_reading : Listing → Record → Result Change LineFault
change_reading roster fields = reading roster source.Changes fields >>= change_in

-- what a record of a feed says
abbrev pub feed_reading : Listing → Feed → Record → Result Line LineFault
feed_reading roster feed fields = reading roster (source.FromFeed feed) fields

-- a change that belongs to the feed
abbrev pub IsOwn : Listing → Feed → Change → Type 0
IsOwn roster feed change = feed_of_change roster change ≡ Some feed
