-- What the feeds' workers did, put together.
use Rattle.std.proofs.Common.{ℕ, zero, suc, ◌≡◌, ◌<◌, ◌≤◌, Bool, true, false, List, [], ◌∷◌, length, map, min, None, refl, ap, sym}
use Rattle.std.proofs.Common.{◌∙◌, subst, arith, if◌then◌else◌}
use Rattle.std.specs.Prelude.{nat_lt, slice_index_or}
use Rattle.std.proofs.Math.ListN.{length-map}
use Rattle.std.proofs.lemmas.Bool.Decides.{nat_tests}
use Rattle.std.proofs.lemmas.List.{get_or-take, get_or_past, length-take}
use Rattle.std.proofs.lemmas.Bool.{false≢true}
use Rattle.std.specs.Cmp.{nat_eq_equiv}
use Rattle.std.specs.List.{AllByRecursion, AllZip}
use Rattle.nms_quote.specs.Merge.{IsMerge, changes_of, feeds, is_of_feed, is_same_feed, of_feed, own_of, place_of}
use Rattle.nms_quote.specs.Roster.{Listing, feed_of_change}
use Rattle.nms_quote.specs.Tape.{Tape}
use Rattle.nms_quote.specs.declared.change.Change.{Change}
use Rattle.nms_quote.specs.declared.feed.Feed.{Feed}
use Rattle.nms_quote.specs.declared.feed.Feed.TheVariants as feed
use Rattle.nms_quote.specs.declared.marked.Marked.{Marked}
use Rattle.nms_quote.proofs.Offered.{same_feed-self}
use Rattle.nms_feed.specs.Lane.{AreSendersOf, Sending, Taking}
use Rattle.nms_lines.proofs.Offered.{no_records}
use Rattle.nms_flow.specs.Run.{changes_in}
use Rattle.nms_live.specs.Crew.{IsFedBy}
use Rattle.nms_lines.specs.ChangeReading.{IsOwn}
use Rattle.nms_live.specs.Reading.{IsRead, IsTapeOf, text_of}
use Rattle.nms_live.specs.declared.fed_feed.Fed.{Fed}
use Rattle.nms_live.proofs.FaultFacts.{fed_whole}

first_of_more : (P : Change → Type 0) (change : Change) (more : List Change) (b : Bool) → b ≡ true
    → AllByRecursion P (if b then change ∷ more else more) → P change
first_of_more P change more true is all = all.0
first_of_more P change more false is all = absurd (false≢true is)

rest_of_more : (P : Change → Type 0) (change : Change) (more : List Change) (b : Bool)
    → AllByRecursion P (if b then change ∷ more else more) → AllByRecursion P more
rest_of_more P change more true all = all.1
rest_of_more P change more false all = all

-- each change bears the mark of the feed that it belongs to, if those of each mark are the feed's own
pub all_own : (roster : Listing) (marked : List Marked) → ((f : Feed) → AllByRecursion (IsOwn roster f) (of_feed f marked))
    → AllByRecursion (λ m. IsOwn roster m.feed m.change) marked
unfolding of_feed
all_own roster [] each = tt
all_own roster (m ∷ ms) each = (
  first_of_more (IsOwn roster m.feed) m.change (of_feed m.feed ms) (is_same_feed m.feed m.feed) (same_feed-self m.feed) (each m.feed),
  all_own roster ms (λ f. rest_of_more (IsOwn roster f) m.change (of_feed f ms) (is_same_feed f m.feed) (each f)),
)

-- so the tape by itself shows what each feed sent
changes_of-own : (roster : Listing) (f : Feed) (marked : List Marked) → AllByRecursion (λ m. IsOwn roster m.feed m.change) marked
    → changes_of roster f (changes_in marked) ≡ of_feed f marked
unfolding of_feed
changes_of-own roster f [] own = refl
changes_of-own roster f (m ∷ ms) own =
    let test : is_of_feed (feed_of_change roster m.change) f ≡ is_same_feed f m.feed =
    ap (λ o. is_of_feed o f) own.0 ∙ nat_eq_equiv.symm (place_of m.feed) (place_of f) in
    ap (λ b. if b then m.change ∷ changes_of roster f (changes_in ms) else changes_of roster f (changes_in ms)) test
    ∙ ap (λ cs. if is_same_feed f m.feed then m.change ∷ cs else cs) (changes_of-own roster f ms own.1)

-- the tape, if every feed was read to its end
pub tape_of_feeds : (roster : Listing) (texts : List (List ℕ)) (marked : List Marked) (tape : Tape) → tape ≡ changes_in marked
    → ((f : Feed) → IsRead roster f (text_of f texts) (of_feed f marked)) → IsTapeOf roster texts tape
tape_of_feeds roster texts marked tape is reads =
    let own = all_own roster marked (λ f. (reads f).own) in
    record {
      marked = marked;
      tape_is = is;
      gave = λ f. record { reads = reads f; own = changes_of-own roster f marked own };
    }

-- a text of no bytes says nothing
unread : (roster : Listing) (f : Feed) → IsRead roster f [] []
unread roster f = record {
  records = [];
  all = no_records;
  said = refl;
  own = tt;
}

-- the pair at a place
zip_at : {A B : Type 0} (R : A → B → Type 0) (xs : List A) (ys : List B) (k : ℕ) (d : A) (e : B) → AllZip R xs ys → k < length xs
    → R (slice_index_or xs k d) (slice_index_or ys k e)
zip_at R [] ys k d e all below = absurd (omega (arith, below))
zip_at R (x ∷ xs) [] k d e all below = absurd all
zip_at R (x ∷ xs) (y ∷ ys) zero d e all below = all.0
zip_at R (x ∷ xs) (y ∷ ys) (suc k) d e all below = zip_at R xs ys k d e all.1 (omega (arith, below))

-- a feed is among the feeds at its place
at_place : (f d : Feed) → slice_index_or feeds (place_of f) d ≡ f
at_place feed.A d = refl
at_place feed.B d = refl
at_place feed.C d = refl
at_place feed.D d = refl
at_place feed.E d = refl
at_place feed.F d = refl
at_place feed.G d = refl
at_place feed.H d = refl

-- its place is one of theirs
below_all : (f : Feed) → place_of f < length feeds
below_all feed.A = omega arith
below_all feed.B = omega arith
below_all feed.C = omega arith
below_all feed.D = omega arith
below_all feed.E = omega arith
below_all feed.F = omega arith
below_all feed.G = omega arith
below_all feed.H = omega arith

-- what a feed's worker sent if none stopped
sent_whole : (roster : Listing) (texts : List (List ℕ)) (senders : List Sending) (fed : List Fed) (f : Feed) (k : ℕ)
    → AllZip (IsFedBy roster texts) senders fed
    → AllByRecursion (λ back. back.stop ≡ None) fed → slice_index_or (map (λ s. s.feed) senders) k f ≡ f → k < length senders
    → IsRead roster f (text_of f texts) (slice_index_or (map (λ back. back.sender.sent) fed) k [])
sent_whole roster texts [] fed f k all none there below = absurd (omega (arith, below))
sent_whole roster texts (sender ∷ senders) [] f k all none there below = absurd all
sent_whole roster texts (sender ∷ senders) (back ∷ fed) f zero all none there below =
    subst (λ (g : Feed). IsRead roster g (text_of g texts) back.sender.sent) there
    (fed_whole roster sender.feed (text_of sender.feed texts) back.sender.sent back.stop none.0 all.0.fed)
sent_whole roster texts (sender ∷ senders) (back ∷ fed) f (suc k) all none there below =
    sent_whole roster texts senders fed f k all.1 none.1 there (omega (arith, below))

zip_length : {A B : Type 0} (R : A → B → Type 0) (xs : List A) (ys : List B) → AllZip R xs ys → length ys ≡ length xs
zip_length R [] [] all = refl
zip_length R [] (y ∷ ys) all = absurd all
zip_length R (x ∷ xs) [] all = absurd all
zip_length R (x ∷ xs) (y ∷ ys) all = ap suc (zip_length R xs ys all.1)

-- there is one for each text, and at most one for each feed
as_many : (taker : Taking) (senders : List Sending) → AreSendersOf taker senders → length senders ≡ min taker.senders (length feeds)
as_many taker senders of = sym (length-map senders (λ (s : Sending). s.feed)) ∙ ap length of.in_order ∙ length-take taker.senders feeds

-- a feed beyond the texts has sent nothing
unsent : (roster : Listing) (texts : List (List ℕ)) (fed : List Fed) (f : Feed) → length fed ≤ length texts → length texts ≤ place_of f
    → IsRead roster f (text_of f texts) (own_of f (map (λ back. back.sender.sent) fed))
unsent roster texts fed f few beyond =
    let gone : own_of f (map (λ (back : Fed). back.sender.sent) fed) ≡ [] =
    get_or_past (map (λ (back : Fed). back.sender.sent) fed) (place_of f) []
    (omega (arith, length-map fed (λ (back : Fed). back.sender.sent), few, beyond)) in
    let no_text : text_of f texts ≡ [] = get_or_past texts (place_of f) [] beyond in
    rw (gone, no_text) (unread roster f)

-- what all feeds sent was read from their texts
pub reads_of_all : (roster : Listing) (texts : List (List ℕ)) (taker : Taking) (senders : List Sending) (fed : List Fed)
    (marked : List Marked) → AreSendersOf taker senders
    → taker.senders ≡ length texts → AllZip (IsFedBy roster texts) senders fed → AllByRecursion (λ back. back.stop ≡ None) fed
    → IsMerge (map (λ back. back.sender.sent) fed) marked → (f : Feed) → IsRead roster f (text_of f texts) (of_feed f marked)
reads_of_all roster texts taker senders fed marked of count all none merge f =
    subst (IsRead roster f (text_of f texts)) (sym (merge f)) (by_place (nat_lt (place_of f) (length texts)) refl)
  where
    many : length senders ≡ min taker.senders (length feeds)
    many = as_many taker senders of

    by_place : (b : Bool) → nat_lt (place_of f) (length texts) ≡ b
        → IsRead roster f (text_of f texts) (own_of f (map (λ (back : Fed). back.sender.sent) fed))
    by_place true is =
        let below : place_of f < taker.senders = grind (arith, nat_tests, is, count) in
        let inside : place_of f < length senders = omega (arith, many, below, below_all f) in
        let there : slice_index_or (map (λ (s : Sending). s.feed) senders) (place_of f) f ≡ f =
        ap (λ (l : List Feed). slice_index_or l (place_of f) f) of.in_order ∙ get_or-take taker.senders feeds (place_of f) f below
        ∙ at_place f f in
        sent_whole roster texts senders fed f (place_of f) all none there inside
    by_place false is =
        let beyond : length texts ≤ place_of f = grind (arith, nat_tests, is) in
        unsent roster texts fed f (omega (arith, many, count, zip_length (IsFedBy roster texts) senders fed all)) beyond
