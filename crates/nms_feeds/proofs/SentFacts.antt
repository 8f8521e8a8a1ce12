-- What was sent of records, one after another.
use Rattle.std.proofs.Common.{ℕ, ◌≡◌, ◌+◌, ◌++◌, Bool, List, [], ◌∷◌, Option, Some, None, Ok, Err, refl, ap, sym, ◌∙◌}
use Rattle.std.proofs.Common.{arith, append_assoc, length, length-append}
use Rattle.std.specs.List.{AllByRecursion, cons_option, filter_map}
use Rattle.std.proofs.lemmas.List.{append-nil}
use Rattle.nms_quote.specs.Roster.{Listing}
use Rattle.nms_quote.specs.declared.change.Change.{Change}
use Rattle.nms_quote.specs.declared.feed.Feed.{Feed}
use Rattle.nms_lines.specs.Layout.{Record}
use Rattle.nms_lines.specs.Records.{BeginRecords}
use Rattle.nms_lines.specs.declared.line.Line.TheVariants as line
use Rattle.nms_lines.specs.declared.line_fault.LineFault.{LineFault}
use Rattle.nms_feeds.specs.declared.feed_counts.FeedCounts.{FeedCounts}
use Rattle.nms_feeds.specs.declared.feed_fault.FeedFault.{FeedFault}
use Rattle.nms_feeds.specs.declared.feed_fault.FeedFault.TheVariants as fault
use Rattle.nms_lines.specs.ChangeReading.{IsOwn, feed_reading}
use Rattle.nms_feeds.specs.Streams.{IsRefusal, IsRefusedAt, IsSentOf, change_read, change_said, changes_said}

either_more : (said : Option Change) (changes later : List Change) → cons_option said (changes ++ later) ≡ cons_option said changes ++ later
either_more None changes later = refl
either_more (Some change) changes later = refl

said_more : (f : Record → Option Change) (records more : List Record) → filter_map f (records ++ more)
    ≡ filter_map f records ++ filter_map f more
said_more f [] more = refl
said_more f (fields ∷ records) more = ap (cons_option (f fields)) (said_more f records more)
    ∙ either_more (f fields) (filter_map f records) (filter_map f more)

all_more : (P : Change → Type 0) (xs ys : List Change) → AllByRecursion P xs → AllByRecursion P ys → AllByRecursion P (xs ++ ys)
all_more P [] ys one other = other
all_more P (x ∷ xs) ys one other = (one.0, all_more P xs ys one.1 other)

-- nothing was read yet
pub sent_none : (roster : Listing) (feed : Feed) (sent : List Change) (counts : FeedCounts)
    → IsSentOf roster feed [] sent sent counts counts
sent_none roster feed sent counts = record { sent = sym (append-nil sent); own = tt; counted = omega arith }

-- records, and then more of them
pub sent_more : (roster : Listing) (feed : Feed) (records more : List Record) (first then last : List Change) (a b c : FeedCounts)
    → IsSentOf roster feed records first then a b → IsSentOf roster feed more then last b c
    → IsSentOf roster feed (records ++ more) first last a c
sent_more roster feed records more first then last a b c one other =
    let all : changes_said roster feed (records ++ more) ≡ changes_said roster feed records ++ changes_said roster feed more =
    said_more (change_said roster feed) records more in
    record {
      sent = other.sent ∙ ap (λ (l : List Change). l ++ changes_said roster feed more) one.sent
          ∙ append_assoc first (changes_said roster feed records) (changes_said roster feed more)
          ∙ ap (λ (l : List Change). first ++ l) (sym all);
      own = rw all (all_more (IsOwn roster feed) (changes_said roster feed records) (changes_said roster feed more) one.own other.own);
      counted = omega (arith, one.counted, other.counted, length-append records more);
    }

-- a record whose change was sent
pub sent_one : (roster : Listing) (feed : Feed) (fields : Record) (change : Change) (old new : List Change) (before after : FeedCounts)
    → feed_reading roster feed fields ≡ Ok (line.Change change) → IsOwn roster feed change → new ≡ old ++ change ∷ []
    → after.records ≡ before.records + 1 → IsSentOf roster feed (fields ∷ []) old new before after
sent_one roster feed fields change old new before after says own is counted =
    let said : change_said roster feed fields ≡ Some change = ap change_read says in
    record {
      sent = rw said is;
      own = rw said (own, tt);
      counted = omega (arith, counted);
    }

-- a record that was passed over
pub sent_no : (roster : Listing) (feed : Feed) (fields : Record) (why : LineFault) (old new : List Change) (before after : FeedCounts)
    → feed_reading roster feed fields ≡ Err why → new ≡ old
    → after.records ≡ before.records + 1 → IsSentOf roster feed (fields ∷ []) old new before after
sent_no roster feed fields why old new before after says is counted =
    let said : change_said roster feed fields ≡ None = ap change_read says in
    record {
      sent = rw said (is ∙ sym (append-nil old));
      own = rw said tt;
      counted = omega (arith, counted);
    }

-- a record that ends the reading, after these
pub refused_at : (roster : Listing) (feed : Feed) (bytes : Option (List ℕ)) (records : List Record) (fields : Record)
    (first now : FeedCounts)
    (strict : Bool) (why : FeedFault)
    → now.records ≡ first.records + length records → BeginRecords bytes (records ++ fields ∷ [])
    → IsRefusal strict (now.records + 1) (feed_reading roster feed fields) why → IsRefusedAt roster feed bytes first strict why
refused_at roster feed bytes records fields first now strict (fault.Refused number own) counted begin is =
    (is.0, records, fields, begin, is.2, omega (arith, is.1, counted))
refused_at roster feed bytes records fields first now strict fault.Failed counted begin is = tt
refused_at roster feed bytes records fields first now strict fault.TooLong counted begin is = tt
refused_at roster feed bytes records fields first now strict fault.NoMemory counted begin is = tt
