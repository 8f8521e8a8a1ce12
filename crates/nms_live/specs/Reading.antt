-- What the records of a feed say, and the first of them that is refused. This product's own rule.
use Rattle.std.specs.Prelude.{ℕ, ◌≡◌, ◌+◌, ◌++◌, ◌∷◌, List, [], length, map, Option, Some, None, Result, Ok, Err}
use Rattle.nms_quote.specs.Merge.{changes_of, of_feed, own_of}
use Rattle.std.specs.List.{AllByRecursion}
use Rattle.nms_quote.specs.Roster.{Listing}
use Rattle.nms_quote.specs.Tape.{Tape}
use Rattle.nms_quote.specs.declared.change.Change.{Change}
use Rattle.nms_quote.specs.declared.feed.Feed.{Feed}
use Rattle.nms_quote.specs.declared.marked.Marked.{Marked}
use Rattle.nms_lines.specs.ChangeReading.{IsOwn, feed_reading}
use Rattle.nms_lines.specs.Layout.{Record}
use Rattle.nms_lines.specs.Records.{AreAllRecords, BeginRecords}
use Rattle.nms_lines.specs.declared.line.Line.{Line}
use Rattle.nms_lines.specs.declared.line.Line.TheVariants as line
use Rattle.nms_lines.specs.declared.line_fault.LineFault.{LineFault}
use Rattle.nms_live.specs.Faults.{IfLine}
use Rattle.nms_live.specs.declared.live_fault.LiveFault.{LiveFault}
use Rattle.nms_flow.specs.Run.{changes_in}

-- each record says the change at its place
abbrev pub Says : Listing → Feed → List Record → List Change → Type 0
Says roster feed records changes = map (feed_reading roster feed) records ≡ map (λ change. Ok (line.Change change)) changes

-- every record of the feed's text says a change of the feed, and these are the changes
pub record IsRead (roster : Listing) (feed : Feed) (text : List ℕ) (changes : List Change) : Type 0 where
  pub records : List Record
  pub all : AreAllRecords (Some text) records
  pub said : Says roster feed records changes
  pub own : AllByRecursion (IsOwn roster feed) changes

-- the feed's text begins with records that say changes, and then one of this number that is refused
pub record IsFirstRefused (roster : Listing) (feed : Feed) (text : List ℕ) (number : ℕ) (why : LineFault) : Type 0 where
  pub before : List Record
  pub refused : Record
  pub changes : List Change
  pub begins : BeginRecords (Some text) (before ++ refused ∷ [])
  pub said : Says roster feed before changes
  pub fault : feed_reading roster feed refused ≡ Err why
  pub counted : number ≡ length before + 1

-- why a feed's worker stopped, as far as its text is the cause
abbrev pub IsFeedFault : Listing → Feed → List ℕ → LiveFault → Type 0
IsFeedFault roster feed text why = IfLine (λ of number own. (of ≡ feed) × IsFirstRefused roster feed text number own) why

-- the refusal of one record
abbrev pub IsRefusal : Feed → ℕ → Result Line LineFault → LiveFault → Type 0
IsRefusal feed place said why = IfLine (λ of number own. (of ≡ feed) × (number ≡ place) × (said ≡ Err own)) why

-- what a feed's worker sent if it did not stop early, else why it did
abbrev pub IsFed : Listing → Feed → List ℕ → List Change → Option LiveFault → Type 0
IsFed roster feed text sent None = IsRead roster feed text sent
IsFed roster feed text sent (Some why) = IsFeedFault roster feed text why

-- the text of a feed: the texts are in order of place, and a feed beyond them has no bytes
abbrev pub text_of : Feed → List (List ℕ) → List ℕ
text_of feed texts = own_of feed texts

-- why a run gave nothing, as far as the feeds' texts are the cause: the first refused record of a feed
abbrev pub IsLiveFault : Listing → List (List ℕ) → LiveFault → Type 0
IsLiveFault roster texts why = IfLine (λ of number own. IsFirstRefused roster of (text_of of texts) number own) why

-- what one feed gave: its text reads as changes. They are those of the tape that bear the feed's mark, in order. The mark of a
-- change is the feed that it belongs to: so the tape by itself shows what the feed gave
pub record HasGiven (roster : Listing) (text : List ℕ) (marked : List Marked) (feed : Feed) : Type 0 where
  pub reads : IsRead roster feed text (of_feed feed marked)
  pub own : changes_of roster feed (changes_in marked) ≡ of_feed feed marked

-- the tape is a merge of what the feeds gave
pub record IsTapeOf (roster : Listing) (texts : List (List ℕ)) (tape : Tape) : Type 0 where
  pub marked : List Marked
  pub tape_is : tape ≡ changes_in marked
  pub gave : (feed : Feed) → HasGiven roster (text_of feed texts) marked feed
