-- The best protected prices of versions: which prices trade through them, and when one more change leaves them.
use Rattle.std.specs.Prelude.{AllPairs, unwrap_or}
use Rattle.std.proofs.Common.{ℕ, zero, suc, ◌≡◌, ◌+◌, ◌<◌, ◌≤◌, ◌∷◌, ◌||◌, ◌&&◌, [], Bool, true, false, List, Option, Some, None, arith}
use Rattle.std.proofs.Common.{refl, sym, ap, subst, ◌∙◌, length, slice_get, take}
use Rattle.std.specs.List.{filter_map, find, list_any, range_with_len}
use Rattle.std.proofs.lemmas.Bool.Decides.{nat_tests}
use Rattle.std.proofs.lemmas.List.{take_all}
use Rattle.std.proofs.lemmas.List.Sorted.{length_permutation, list_any-IsPermutation}
use Rattle.nms_quote.specs.Roster.{Sizes}
use Rattle.nms_quote.specs.Tape.{Tape, version}
use Rattle.nms_quote.specs.declared.side_quote.Side.{Side}
use Rattle.nms_quote.specs.declared.side_quote.Side.TheVariants.{Bid, Offer}
use Rattle.nms_board.specs.Cells.{Board}
use Rattle.nms_board.specs.Quotation.{quotation_of, quotations}
use Rattle.nms_board.specs.Ranking.{IsRankOrder, better_price, ranked, ranks_above}
use Rattle.nms_board.specs.Shown.{rows_held, seen_on}
use Rattle.nms_board.specs.View.{AreRows, Seen, rows_on, view_of}
use Rattle.nms_board.specs.declared.row.Row.{Row}
use Rattle.nms_board.proofs.Offered.{rows_in_order, seen_stands}
use Rattle.nms_rules.specs.Through.{is_through}
use Rattle.nms_stream.specs.Replays.{IsAt}
use Rattle.nms_trades.specs.Around.{goes_through}
use Rattle.nms_trades.specs.Bests.{AreBests, best_at, best_price, limits_of}
use Rattle.nms_trades.specs.Judged.{best_protected, whole_price}
use Rattle.nms_trades.specs.Track.{HasTrack, bid_above, holds_of, nothing, offer_below}
use Rattle.nms_trades.specs.declared.track.Limits.{Limits}
use Rattle.nms_trades.specs.declared.track.Test.TheVariants as test
use Rattle.nms_trades.specs.declared.track.Track.{Track}
use Rattle.nms_trades.proofs.TrackFacts.{track_same, track_stays}

-- what ranks below a row is at no better a price
no_better : (side : Side) (p : ℕ) (row other : Row) → ranks_above side row other ≡ true → better_price side row.price p ≡ false
    → better_price side other.price p ≡ false
no_better Bid p row other above beside = grind (arith, nat_tests)
no_better Offer p row other above beside = grind (arith, nat_tests)

abbrev Falls : Side → List Row → Type 0
Falls side rows = AllPairs (λ row other. ranks_above side row other ≡ true) rows

-- so a row at no better a price than this one is followed by none that is traded through
none_after : (side : Side) (p : ℕ) (row : Row) (rows : List Row) → Falls side (row ∷ rows) → better_price side row.price p ≡ false
    → list_any (is_through side p) rows ≡ false
none_after side p row [] falls beside = refl
none_after side p row (other ∷ rows) falls beside =
    let next : better_price side other.price p ≡ false =
    no_better side p row other (falls 0 1 row (omega arith) (omega arith)) beside in
    by other.protected (none_after side p row rows (without side row other rows falls) beside) next
  where
    without : (side : Side) (row other : Row) (rows : List Row) → Falls side (row ∷ other ∷ rows) → Falls side (row ∷ rows)
    without side row other rows falls zero zero d lt below = absurd (omega arith)
    without side row other rows falls zero (suc j) d lt below = falls zero (suc (suc j)) d (omega arith) (omega arith)
    without side row other rows falls (suc i) zero d lt below = absurd (omega arith)
    without side row other rows falls (suc i) (suc j) d lt below = falls (suc (suc i)) (suc (suc j)) d (omega arith) (omega arith)

    by : (b : Bool) → list_any (is_through side p) rows ≡ false → better_price side other.price p ≡ false
        → (b && better_price side other.price p || list_any (is_through side p) rows) ≡ false
    by true rest next = rw (next, rest) refl
    by false rest next = rest

-- whether the price of the best protected row is better than this one
abbrev beats : Side → ℕ → Option ℕ → Bool
beats Bid p best = bid_above p best
beats Offer p best = offer_below p best

-- the best protected row is traded through exactly if some row is
first_decides : (side : Side) (p : ℕ) (rows : List Row) → Falls side rows
    → beats side p (best_price rows) ≡ list_any (is_through side p) rows
first_decides Bid p [] falls = refl
first_decides Offer p [] falls = refl
first_decides side p (row ∷ rows) falls =
    by row.protected refl (first_decides side p rows (λ i j d lt below. falls (suc i) (suc j) d (omega arith) (omega arith)))
  where
    one : (side : Side) (b : Bool) → better_price side row.price p ≡ b → Falls side (row ∷ rows)
        → beats side p (Some row.price) ≡ (better_price side row.price p || list_any (is_through side p) rows)
    one Bid true better all = rw better refl
    one Offer true better all = rw better refl
    one Bid false better all = rw (better, none_after Bid p row rows all better) refl
    one Offer false better all = rw (better, none_after Offer p row rows all better) refl

    by : (b : Bool) → row.protected ≡ b → beats side p (best_price rows) ≡ list_any (is_through side p) rows
        → beats side p (best_price (row ∷ rows)) ≡ (row.protected && better_price side row.price p || list_any (is_through side p) rows)
    by true is rest = rw is (one side (better_price side row.price p) refl falls)
    by false is rest = rw is rest

-- each of what is seen has its rank order
abbrev pub AreInOrder : Seen → Type 0
AreInOrder seen = (side : Side) → IsRankOrder side (rows_on side seen) (ranked side (rows_on side seen))

pub seen_in_order : (sizes : Sizes) (tape : Tape) (symbol : ℕ)
    → ((side : Side) → IsRankOrder side (quotations sizes tape symbol side) (ranked side (quotations sizes tape symbol side)))
    → AreInOrder (view_of sizes tape symbol)
seen_in_order sizes tape symbol order Bid = order Bid
seen_in_order sizes tape symbol order Offer = order Offer

-- a price trades through a version's best prices exactly if it trades through one of its protected quotations
pub best_decides : (millionths : ℕ) (seen : Seen) → AreInOrder seen
    → holds_of test.Through millionths (limits_of seen) ≡ goes_through millionths seen
best_decides millionths seen order =
    rw (
      one Bid (whole_price Bid millionths),
      one Offer (whole_price Offer millionths),
    ) refl
  where
    one : (side : Side) (p : ℕ) → beats side p (best_price (ranked side (rows_on side seen)))
        ≡ list_any (is_through side p) (rows_on side seen)
    one side p =
        first_decides side p (ranked side (rows_on side seen)) (order side).falling
        ∙ sym (list_any-IsPermutation (is_through side p) (rows_on side seen) (ranked side (rows_on side seen)) (order side).same)

pub side_rows : (board : Board) (symbol : ℕ) (side : Side) → AreRows (rows_held board symbol Bid) → AreRows (rows_held board symbol Offer)
    → AreRows (rows_held board symbol side)
side_rows board symbol Bid bids offers = bids
side_rows board symbol Offer bids offers = offers

-- the first of some elements that pass a test: the element at a place, if it passes and none before it does
pub found_here : {X : Type 0} (p : X → Bool) (xs : List X) (at : ℕ) (x : X) → slice_get xs at ≡ Some x → p x ≡ true
    → find p (take at xs) ≡ None → find p xs ≡ Some x
found_here p [] at x is passes none = absurd (cc)
found_here p (y ∷ ys) zero x is passes none =
    let same : y ≡ x = ap (λ o. unwrap_or o y) is in
    let first : p y ≡ true = ap p same ∙ passes in
    rw first is
found_here p (y ∷ ys) (suc at) x is passes none = by (p y) refl (found_here p ys at x is passes)
  where
    by : (b : Bool) → p y ≡ b → (find p (take at ys) ≡ None → find p ys ≡ Some x) → find p (y ∷ ys) ≡ Some x
    by true e later = let both : Some y ≡ None = rw e at none in absurd (cc)
    by false e later = rw e (later (rw e at none))

none_at : {X : Type 0} (p : X → Bool) (xs : List X) (at : ℕ) (x : X) → slice_get xs at ≡ Some x → p x ≡ false
    → find p (take at xs) ≡ None → find p (take (suc at) xs) ≡ None
none_at p [] at x is fails none = absurd (cc)
none_at p (y ∷ ys) zero x is fails none =
    let same : y ≡ x = ap (λ o. unwrap_or o y) is in
    let first : p y ≡ false = ap p same ∙ fails in
    rw first refl
none_at p (y ∷ ys) (suc at) x is fails none = by (p y) refl (none_at p ys at x is fails)
  where
    by : (b : Bool) → p y ≡ b → (find p (take at ys) ≡ None → find p (take (suc at) ys) ≡ None) → find p (y ∷ take (suc at) ys) ≡ None
    by true e later = let both : Some y ≡ None = rw e at none in absurd (cc)
    by false e later = rw e (later (rw e at none))

-- and none up to it, if it does not
pub none_here : {X : Type 0} (p : X → Bool) (xs : List X) (at : ℕ) (x : X) → slice_get xs at ≡ Some x → p x ≡ false
    → find p (take at xs) ≡ None → find p (take (at + 1) xs) ≡ None
none_here p xs at x is fails none =
    let one_more : suc at ≡ at + 1 = omega arith in
    subst (λ n. find p (take n xs) ≡ None) one_more (none_at p xs at x is fails none)

-- no row of a side is protected if none is of those that were read, and no more is left
pub none_past : (side : Side) (rows : List Row) (at : ℕ) → AreRows rows → length rows ≤ at
    → best_protected (take at (ranked side rows)) ≡ None
    → None ≡ best_price (ranked side rows)
none_past side rows at are past none =
    let few : length (ranked side rows) ≡ length rows =
    length_permutation rows (ranked side rows) (rows_in_order side rows are).same in
    let all : take at (ranked side rows) ≡ ranked side rows = take_all at (ranked side rows) (omega (arith, few, past)) in
    let nothing_left : best_protected (ranked side rows) ≡ None = ap best_protected (sym all) ∙ none in
    rw nothing_left refl

-- a board shows the best prices of its version
pub shown_at : (sizes : Sizes) (tape : Tape) (board : Board) (symbol : ℕ) → IsAt sizes tape board
    → limits_of (seen_on board symbol) ≡ best_at sizes tape symbol board.applied
shown_at sizes tape board symbol at =
    ap limits_of (seen_stands board (version board.applied tape) symbol at.stands)
    ∙ ap (λ (z : Sizes). limits_of (view_of z (version board.applied tape) symbol)) at.same

-- a track that a change leaves
pub has_stays : (all : ℕ → Limits) (upto : ℕ) (found : Option Track) → all (upto + 1) ≡ all upto → HasTrack all upto found
    → HasTrack all (upto + 1) found
has_stays all upto None same has = absurd has
has_stays all upto (Some track) same has = track_stays all upto track.marks.items has same

-- a track of nothing is one of what is nothing at first
pub has_first : (all : ℕ → Limits) (found : Option Track) → all 0 ≡ nothing → HasTrack (λ n. nothing) 0 found → HasTrack all 0 found
has_first all None none has = absurd has
has_first all (Some track) none has =
    track_same (λ n. nothing) all 0 track.marks.items (λ n low. ap all (only n low) ∙ none) has
  where
    only : (n : ℕ) → n ≤ 0 → n ≡ 0
    only n low = omega arith

filter_map_none : {X Y : Type 0} (f : X → Option Y) (xs : List X) → ((x : X) → f x ≡ None) → filter_map f xs ≡ []
filter_map_none f [] none = refl
filter_map_none f (x ∷ xs) none =
    let first : f x ≡ None = none x in
    rw first (filter_map_none f xs none)

-- before any change nothing is quoted
pub nothing_at_first : (sizes : Sizes) (tape : Tape) (symbol : ℕ) → best_at sizes tape symbol 0 ≡ nothing
nothing_at_first sizes tape symbol =
    let none : quotations sizes [] symbol Bid ≡ [] =
    filter_map_none (quotation_of sizes [] symbol Bid) (range_with_len 0 sizes.parts) (λ part. refl) in
    rw none refl

-- so each symbol has a track of that
pub bests_first : (sizes : Sizes) (tape : Tape) (bests : List Track)
    → ((place : ℕ) → place < length sizes.lots → HasTrack (λ n. nothing) 0 (slice_get bests place)) → AreBests sizes tape 0 bests
bests_first sizes tape bests each symbol below =
    has_first (best_at sizes tape symbol) (slice_get bests symbol) (nothing_at_first sizes tape symbol) (each symbol below)
