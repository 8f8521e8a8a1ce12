-- Cutting a sender's pass off the first one, and what all passes know when they are put together again.
use Rattle.std.proofs.Common.{ℕ, ◌≡◌, ◌≤◌, zero, suc, false, List, [], ◌∷◌, ◌++◌, length, map, take, drop, get_or, None, Some, refl, sym}
use Rattle.std.proofs.Common.{ap, ◌∙◌, subst, arith, length-append}
use Rattle.std.specs.Prelude.{slice_get, slice_index_or, sum_by}
use Rattle.std.specs.List.{AllByRecursion, IsDistinct}
use Rattle.std.proofs.lemmas.List.{append-nil}
use Rattle.std.proofs.lemmas.Cmp.{nat_eq_equiv, on_equiv}
use Rattle.std.proofs.lemmas.Map.Made.{IsDistinct-from_count}
use Rattle.std.proofs.lemmas.List.Sums.{sum_by-cons}
use Rattle.std.proofs.lemmas.Option.{none-some, same_Some}
use Rattle.crossbeam_queue.specs.Fifo.{Forks}
use Rattle.nms_quote.specs.Merge.{IsMerge, feeds, is_same_feed, of_feed, place_of}
use Rattle.nms_quote.specs.declared.feed.Feed.{Feed}
use Rattle.nms_quote.specs.declared.marked.Marked.{Marked}
use Rattle.nms_quote.proofs.Offered.{feeds-at_place, of_feed-total, total}
use Rattle.nms_feed.specs.declared.known.Known.{Known}
use Rattle.nms_feed.specs.declared.known.Sent.{Sent}
use Rattle.nms_feed.specs.Known.{first_alone, sender_view, sent_for, taker_view, unsent, without_first}
use Rattle.nms_feed.specs.Lane.{Sending, lists_of}
use Rattle.nms_feed.specs.Rule.{Kept}
use Rattle.nms_feed.proofs.Moves.{forks}

-- each feed is another than those after it
feeds-distinct : IsDistinct is_same_feed feeds
feeds-distinct = IsDistinct-from_count (on_equiv place_of nat_eq_equiv) feeds refl

-- the element at a place, and those after it
pub drop_next : {X : Type 0} (xs : List X) (place : ℕ) (x : X) → slice_get xs place ≡ Some x → drop place xs ≡ x ∷ drop (suc place) xs
drop_next [] place x is = absurd (none-some x is)
drop_next (y ∷ xs) zero x is = ap (λ z. z ∷ xs) (same_Some y x is)
drop_next (y ∷ xs) (suc place) x is = drop_next xs place x is

pub take_next : {X : Type 0} (xs : List X) (place : ℕ) (x : X) → slice_get xs place ≡ Some x → take (suc place) xs ≡ take place xs ++ x ∷ []
take_next [] place x is = absurd (none-some x is)
take_next (y ∷ xs) zero x is = ap (λ z. z ∷ []) (same_Some y x is)
take_next (y ∷ xs) (suc place) x is = ap (λ l. y ∷ l) (take_next xs place x is)

apart_each : (g : Feed) (fs : List Feed) → AllByRecursion (λ h. is_same_feed g h ≡ false) fs
    → AllByRecursion (λ s. is_same_feed g s.feed ≡ false) (map unsent fs)
apart_each g [] all = tt
apart_each g (f ∷ fs) all = (all.0, apart_each g fs all.1)

apart : (fs : List Feed) → IsDistinct is_same_feed fs → (place : ℕ) (f : Feed) → slice_get fs place ≡ Some f
    → AllByRecursion (λ s. is_same_feed f s.feed ≡ false) (map unsent (drop (suc place) fs))
unfolding IsDistinct
apart [] distinct place f is = absurd (none-some f is)
apart (g ∷ fs) distinct zero f is = subst (λ (h : Feed). AllByRecursion (λ s. is_same_feed h s.feed ≡ false) (map unsent fs))
    (same_Some g f is) (apart_each g fs distinct.0)
apart (g ∷ fs) distinct (suc place) f is = apart fs distinct.1 place f is

-- a pass for the feed at a place may be cut off the first one, if those for the feeds before it were
pub cuts : (pass place : ℕ) (f : Feed) → slice_get feeds place ≡ Some f
    → Forks Kept pass (taker_view place []) (without_first (taker_view place [])) (first_alone (taker_view place []))
cuts pass place f is =
    subst (λ (sent : List Sent). Forks Kept pass (record { sent = sent; taken = Some [] })
    (record { sent = drop 1 sent; taken = Some [] }) (record { sent = take 1 sent; taken = None }))
    (sym (ap (map unsent) (drop_next feeds place f is)))
    (forks pass (unsent f) (map unsent (drop (suc place) feeds)) (Some []) (apart feeds feeds-distinct place f is))

-- what is left with the first one, and what the new one knows
pub cut_left : (place : ℕ) (f : Feed) → slice_get feeds place ≡ Some f → without_first (taker_view place []) ≡ taker_view (suc place) []
cut_left place f is = ap (λ (fs : List Feed). without_first (record { sent = map unsent fs; taken = Some [] })) (drop_next feeds place f is)

pub cut_right : (place : ℕ) (f : Feed) → slice_get feeds place ≡ Some f → first_alone (taker_view place []) ≡ sender_view f []
cut_right place f is = ap (λ (fs : List Feed). first_alone (record { sent = map unsent fs; taken = Some [] })) (drop_next feeds place f is)

-- what a sender says
abbrev pub told_by : Sending → Sent
told_by sender = sent_for sender.feed sender.sent

-- what the taker's pass knows, once it has taken in those of these senders
abbrev pub joined : ℕ → List Marked → List Sending → Known
joined senders taken done = record { sent = map unsent (drop senders feeds) ++ map told_by done; taken = Some taken }

-- all that was sent for its feed
abbrev IsWhole : List Marked → Sent → Type 0
IsWhole whole sent = sent.changes ≡ of_feed sent.feed whole

all_parted : {X : Type 0} (P : X → Type 0) (xs ys : List X) → AllByRecursion P (xs ++ ys) → AllByRecursion P xs × AllByRecursion P ys
all_parted P [] ys all = (tt, all)
all_parted P (x ∷ xs) ys all = let more = all_parted P xs ys all.1 in ((all.0, more.0), more.1)

-- nothing was sent for feeds without a sender
unsent-at : (whole : List Marked) (fs : List Feed) → AllByRecursion (IsWhole whole) (map unsent fs) → (place : ℕ) (f : Feed)
    → slice_get fs place ≡ Some f → of_feed f whole ≡ []
unsent-at whole [] all place f is = absurd (none-some f is)
unsent-at whole (g ∷ fs) all zero f is = ap (λ h. of_feed h whole) (sym (same_Some g f is)) ∙ sym all.0
unsent-at whole (g ∷ fs) all (suc place) f is = unsent-at whole fs all.1 place f is

unsent-total : (whole : List Marked) (fs : List Feed) → AllByRecursion (IsWhole whole) (map unsent fs) → total (λ f. of_feed f whole) fs ≡ 0
unsent-total whole [] all = refl
unsent-total whole (f ∷ fs) all = omega (arith, ap length all.0, unsent-total whole fs all.1)

-- what was sent for the feed at a place is there among the senders' lists
sent-at : (whole : List Marked) (count : ℕ) (fs : List Feed) (senders : List Sending) → map (λ s. s.feed) senders ≡ take count fs
    → AllByRecursion (IsWhole whole) (map unsent (drop count fs)) → AllByRecursion (IsWhole whole) (map told_by senders)
    → (place : ℕ) (f : Feed) → slice_get fs place ≡ Some f → of_feed f whole ≡ slice_index_or (lists_of senders) place []
sent-at whole zero fs [] order rest all place f is = unsent-at whole fs rest place f is
sent-at whole zero fs (s ∷ senders) order rest all place f is = absurd (omega (arith, ap length order))
sent-at whole (suc count) [] senders order rest all place f is = absurd (none-some f is)
sent-at whole (suc count) (g ∷ fs) [] order rest all place f is = absurd (omega (arith, ap length order))
sent-at whole (suc count) (g ∷ fs) (s ∷ senders) order rest all zero f is =
    ap (λ h. of_feed h whole) (sym (same_Some g f is) ∙ sym (ap (λ l. get_or l 0 g) order)) ∙ sym all.0
sent-at whole (suc count) (g ∷ fs) (s ∷ senders) order rest all (suc place) f is =
    sent-at whole count fs senders (ap (drop 1) order) rest all.1 place f is

sent-total : (whole : List Marked) (count : ℕ) (fs : List Feed) (senders : List Sending) → map (λ s. s.feed) senders ≡ take count fs
    → AllByRecursion (IsWhole whole) (map unsent (drop count fs)) → AllByRecursion (IsWhole whole) (map told_by senders)
    → total (λ f. of_feed f whole) fs ≡ sum_by (λ s. length s.sent) senders
sent-total whole zero fs [] order rest all = unsent-total whole fs rest
sent-total whole zero fs (s ∷ senders) order rest all = absurd (omega (arith, ap length order))
sent-total whole (suc count) [] [] order rest all = refl
sent-total whole (suc count) [] (s ∷ senders) order rest all = absurd (omega (arith, ap length order))
sent-total whole (suc count) (g ∷ fs) [] order rest all = absurd (omega (arith, ap length order))
sent-total whole (suc count) (g ∷ fs) (s ∷ senders) order rest all =
    let same : s.feed ≡ g = ap (λ l. get_or l 0 g) order in
    omega (
      arith,
      ap length (all.0 ∙ ap (λ h. of_feed h whole) same),
      sent-total whole count fs senders (ap (drop 1) order) rest all.1,
      sum_by-cons (λ (t : Sending). length t.sent) s senders,
    )

none_left : (items : List Marked) → length items ≡ 0 → items ≡ []
none_left [] e = refl
none_left (m ∷ items) e = absurd (omega arith)

-- if no fewer were taken than sent, nothing is left, and what was taken is a merge of what was sent
pub merged : (count : ℕ) (senders : List Sending) (taken items : List Marked) → map (λ s. s.feed) senders ≡ take count feeds
    → AllByRecursion (IsWhole (taken ++ items)) (joined count taken senders).sent → sum_by (λ s. length s.sent) senders ≤ length taken
    → IsMerge (lists_of senders) taken
merged count senders taken items order all le =
    let parts = all_parted (IsWhole (taken ++ items)) (map unsent (drop count feeds)) (map told_by senders) all in
    let nothing : items ≡ [] = none_left items (omega (
      arith,
      le,
      sent-total (taken ++ items) count feeds senders order parts.0 parts.1,
      of_feed-total (taken ++ items),
      length-append taken items,
    )) in
    let whole : taken ++ items ≡ taken = ap (λ l. taken ++ l) nothing ∙ append-nil taken in
    λ f. ap (of_feed f) (sym whole) ∙ sent-at (taken ++ items) count feeds senders order parts.0 parts.1 (place_of f) f (feeds-at_place f)
