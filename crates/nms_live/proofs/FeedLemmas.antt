-- Each change of a live run's tape belongs to a feed.
use Rattle.std.proofs.Common.{ℕ, ◌≡◌, List, [], ◌∷◌, map, Option, Some, refl, ap, sym, subst}
use Rattle.std.specs.Prelude.{All, unwrap_or}
use Rattle.std.specs.List.{AllByRecursion}
use Rattle.std.proofs.lemmas.List.Elements.{All-from_recursion}
use Rattle.nms_quote.specs.Roster.{Listing, feed_of_change}
use Rattle.nms_quote.specs.Tape.{Tape}
use Rattle.nms_quote.specs.declared.change.Change.{Change}
use Rattle.nms_quote.specs.declared.feed.Feed.{Feed}
use Rattle.nms_quote.specs.declared.feed.Feed.TheVariants as feed
use Rattle.nms_quote.specs.declared.marked.Marked.{Marked}
use Rattle.nms_flow.specs.Laws.{IsOnOwnFeed}
use Rattle.nms_flow.specs.Run.{changes_in}
use Rattle.nms_lines.specs.ChangeReading.{IsOwn}
use Rattle.nms_live.specs.Reading.{IsTapeOf}
use Rattle.nms_live.proofs.TapeFacts.{all_own}

-- a change with the mark of the feed that it belongs to
abbrev pub marked_by : Listing → Change → Marked
marked_by roster change = record { feed = unwrap_or (feed_of_change roster change) feed.A; change = change }

pub changes_in-marked : (roster : Listing) (tape : Tape) → changes_in (map (marked_by roster) tape) ≡ tape
changes_in-marked roster [] = refl
changes_in-marked roster (change ∷ tape) = ap (λ l. change ∷ l) (changes_in-marked roster tape)

marked_own : (roster : Listing) (marked : List Marked) → AllByRecursion (λ m. IsOwn roster m.feed m.change) marked
    → AllByRecursion (IsOnOwnFeed roster) (map (marked_by roster) (changes_in marked))
marked_own roster [] own = tt
marked_own roster (m ∷ ms) own = (subst (λ (o : Option Feed). o ≡ Some (unwrap_or o feed.A)) (sym own.0) refl, marked_own roster ms own.1)

-- each change of the tape is sent on the feed that it belongs to
pub own_feeds : (roster : Listing) (texts : List (List ℕ)) (tape : Tape) → IsTapeOf roster texts tape
    → All (IsOnOwnFeed roster) (map (marked_by roster) tape)
own_feeds roster texts tape of =
    let own = all_own roster of.marked (λ f. (of.gave f).reads.own) in
    rw of.tape_is (All-from_recursion (IsOnOwnFeed roster) (map (marked_by roster) (changes_in of.marked))
    (marked_own roster of.marked own))
