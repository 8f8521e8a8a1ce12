-- The stream of one feed: what its records say, and what was sent of it. This product's own rule.
use Rattle.std.specs.Prelude.{ℕ, ◌≡◌, ◌+◌, ◌≤◌, ◌++◌, ◌∷◌, Bool, true, List, [], codes, length, Option, Some, None, Result, Ok, Err}
use Rattle.std.specs.List.{AllByRecursion, filter_map}
use Rattle.nms_quote.specs.Roster.{Listing}
use Rattle.nms_quote.specs.declared.change.Change.{Change}
use Rattle.nms_quote.specs.declared.feed.Feed.{Feed}
use Rattle.nms_lines.specs.ChangeReading.{IsOwn, feed_reading}
use Rattle.nms_lines.specs.Layout.{Record}
use Rattle.nms_lines.specs.Records.{AreAllRecords, BeginRecords}
use Rattle.nms_lines.specs.declared.line.Line.{Line}
use Rattle.nms_lines.specs.declared.line.Line.TheVariants as line
use Rattle.nms_lines.specs.declared.line_fault.LineFault.{LineFault}
use Rattle.nms_feed.specs.declared.TheConstants.{MOST_SENT}
use Rattle.nms_feeds.specs.declared.feed_counts.FeedCounts.{FeedCounts}
use Rattle.nms_feeds.specs.declared.feed_fault.FeedFault.{FeedFault}
use Rattle.nms_feeds.specs.declared.feed_fault.FeedFault.TheVariants as fault

-- the change that was read, if any was
abbrev pub change_read : Result Line LineFault → Option Change
change_read (Ok (line.Change change)) = Some change
change_read (Ok _) = None
change_read (Err _) = None

-- the change that a record of a feed says; a refused record says none
abbrev pub change_said : Listing → Feed → Record → Option Change
change_said roster feed fields = change_read (feed_reading roster feed fields)

-- the changes that the records say, in order, the refused ones left out
abbrev pub changes_said : Listing → Feed → List Record → List Change
changes_said roster feed records = filter_map (change_said roster feed) records

-- nothing was read
abbrev pub no_counts : FeedCounts
no_counts = record { records = 0; refused = 0 }

-- each record that was read was refused, or the change that it says was sent
pub record IsCounted (sent : List Change) (counts : FeedCounts) : Type 0 where
  pub each : length sent + counts.refused ≡ counts.records
  pub within : counts.records ≤ MOST_SENT

-- what was sent of these records: the changes that they say, in order, each of the feed, and each record was counted
pub record IsSentOf (roster : Listing) (feed : Feed) (records : List Record) (old new : List Change) (before after : FeedCounts) :
    Type 0 where
  pub sent : new ≡ old ++ changes_said roster feed records
  pub own : AllByRecursion (IsOwn roster feed) (changes_said roster feed records)
  pub counted : after.records ≡ before.records + length records

-- all records of a text were read, and this was sent of them
pub record HasRead (roster : Listing) (feed : Feed) (bytes : Option (List ℕ)) (old new : List Change) (before after : FeedCounts) :
    Type 0 where
  pub records : List Record
  pub all : AreAllRecords bytes records
  pub sent : IsSentOf roster feed records old new before after

-- a text begins with these records, and this was sent of them
pub record HasBegun (roster : Listing) (feed : Feed) (bytes : Option (List ℕ)) (old new : List Change) (before after : FeedCounts) :
    Type 0 where
  pub records : List Record
  pub begin : BeginRecords bytes records
  pub sent : IsSentOf roster feed records old new before after

-- a refusal is a reason not to send a record's change only if it was asked for
abbrev pub IsRefusal : Bool → ℕ → Result Line LineFault → FeedFault → Type 0
IsRefusal strict place said (fault.Refused number why) = (strict ≡ true) × (number ≡ place) × (said ≡ Err why)
IsRefusal strict place said fault.Failed = ⊥
IsRefusal strict place said fault.TooLong = ⊥
IsRefusal strict place said fault.NoMemory = ⊥

-- a refused record is a reason to stop early only if it was asked for: it is the last one that was read
abbrev pub IsRefusedAt : Listing → Feed → Option (List ℕ) → FeedCounts → Bool → FeedFault → Type 0
IsRefusedAt roster feed bytes counts strict (fault.Refused number why) =
    (strict ≡ true) × (before : List Record) × (refused : Record) × BeginRecords bytes (before ++ refused ∷ [])
    × (feed_reading roster feed refused ≡ Err why) × (number ≡ counts.records + length before + 1)
IsRefusedAt roster feed bytes counts strict fault.Failed = Unit {0}
IsRefusedAt roster feed bytes counts strict fault.TooLong = Unit {0}
IsRefusedAt roster feed bytes counts strict fault.NoMemory = Unit {0}

-- the code of each fault
abbrev pub code_of : FeedFault → List ℕ
code_of fault.Failed = codes "E1"
code_of fault.TooLong = codes "E3"
code_of fault.NoMemory = codes "E4"
code_of (fault.Refused number why) = codes "E5"
