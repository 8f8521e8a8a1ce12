-- The pair at each place of a view. A walk's first pair leads the pairs from a place on.
use Rattle.std.proofs.Common.{◌≡◌, ℕ, suc, ◌+◌, ◌-◌, ◌<◌, ◌≤◌, ◌/◌, ◌%◌, ◌||◌, Bool, true, false, cond, List, [], ◌∷◌, Contains, get_or}
use Rattle.std.proofs.Common.{arith, Option, Some, None, IfSome, refl, sym, ◌∙◌, ap, inl, inr, eqb, ltb, zero-add}
use Rattle.std.specs.List.{find, range_with_len}
use Rattle.std.proofs.lemmas.Bool.{cases_lt, cases_order, eq-eqb, eqb-false, eqb-true, le-ltb, ltb-false, ne_eqb}
use Rattle.std.proofs.lemmas.List.{get_or_default}
use Rattle.std.proofs.lemmas.List.Elements.{All-contains}
use Rattle.std.proofs.lemmas.List.FromFn.{get_or-range_with_len}
use Rattle.nms_quote.specs.declared.side_quote.Side.TheVariants.{Bid, Offer}
use Rattle.nms_board.specs.View.{Seen, row_of}
use Rattle.nms_board.specs.declared.row.Row.{Row}
use Rattle.nms_nbbo.specs.declared.pair.Pair.{Pair}
use Rattle.nms_nbbo.specs.Laws.{IsOfRoster, IsPairIn, ListsPairs, LockOrCross}
use Rattle.nms_nbbo.specs.Pairs.{pair_between, pair_of, place_of, pair_at, pairs_from}
use Rattle.nms_nbbo.specs.Walk.{AreByPart, NoPair, IsFirstPair}
use Rattle.nms_board.proofs.Offered.{found_alone}
use Rattle.nms_nbbo.proofs.ListLemmas.{All-filter_map, Contains-filter_map, filter_map-past, found}
use Rattle.nms_nbbo.proofs.WalkLemmas.{part_rises}

pair_between-none : (bid offer : Option Row) → ((b o : Row) → bid ≡ Some b → offer ≡ Some o → pair_between (Some b) (Some o) ≡ None)
    → pair_between bid offer ≡ None
pair_between-none None offer none = refl
pair_between-none (Some b) None none = refl
pair_between-none (Some b) (Some o) none = none b o refl refl

-- at a place whose rows are not a pair there is no pair
pair_at-none : (seen : Seen) (place low high : ℕ) → NoPair seen.bids seen.offers low high → low ≤ place → place < high
    → pair_at seen place ≡ None
pair_at-none seen place low high none from to =
    pair_between-none (row_of Bid (place / 32) seen) (row_of Offer (place % 32) seen) (λ bid offer bid_is offer_is.
    let (in_bids, bid_part) = found (λ row. eqb row.part (place / 32)) seen.bids bid bid_is in
    let (in_offers, offer_part) = found (λ row. eqb row.part (place % 32)) seen.offers offer offer_is in
    let here : place_of bid offer ≡ place = omega (
      arith,
      eqb-true bid.part (place / 32) bid_part,
      eqb-true offer.part (place % 32) offer_part,
    ) in
    none bid offer in_bids in_offers (omega arith) (omega arith))

-- the pairs from two places on are the same if there is none between them
pairs_from-past : (seen : Seen) (low high : ℕ) → low ≤ high → high ≤ 1024 → NoPair seen.bids seen.offers low high
    → pairs_from low seen ≡ pairs_from high seen
pairs_from-past seen low high le within none =
    let between : low + (high - low) ≡ high = omega arith in
    let rest : (high - low) + (1024 - high) ≡ 1024 - low = omega arith in
    let past = filter_map-past (pair_at seen) (high - low) (1024 - high) low
    (λ k from to. pair_at-none seen k low high none from (omega arith)) in
    rw between at (rw rest at past)

-- if there are no more pairs, none is listed
pub pairs_from-none : (seen : Seen) (low : ℕ) → NoPair seen.bids seen.offers low 1024 → pairs_from low seen ≡ []
pairs_from-none seen low none =
    elim (cases_lt 1024 low) [
      | inl past ↦ let count : 1024 - low ≡ 0 = omega arith in rw count refl
      | inr within ↦ pairs_from-past seen low 1024 within (omega arith) none
    ]

-- one participant has one row
same_part : (rows : List Row) (row other : Row) → AreByPart rows → Contains rows row → Contains rows other → other.part ≡ row.part
    → other ≡ row
same_part rows row other rising (i, below, at) (k, there, at_k) same =
    let row_part : (get_or rows i row).part ≡ row.part = ap (λ (r : Row). r.part) at in
    let other_part : (get_or rows k row).part ≡ other.part = ap (λ (r : Row). r.part) (get_or_default rows k row other there ∙ at_k) in
    elim (cases_order k i) [
      | inl e ↦ sym at_k ∙ get_or_default rows k other row there ∙ ap (λ n. get_or rows n row) e ∙ at
      | inr (inl before) ↦ absurd (omega (arith, part_rises rows k i row rising before below))
      | inr (inr after) ↦ absurd (omega (arith, part_rises rows i k row rising after there))
    ]

-- a row is found by its participant
row_found : (rows : List Row) (row : Row) → AreByPart rows → Contains rows row → find (λ other. eqb other.part row.part) rows ≡ Some row
row_found rows row rising stands =
    found_alone (λ other. eqb other.part row.part) rows row stands (eq-eqb row.part row.part refl) (λ other there same.
    same_part rows row other rising stands there (eqb-true other.part row.part same))

-- at the place of two rows is the pair that they make, if any
pair_at-rows : (seen : Seen) (bid offer : Row) → AreByPart seen.bids → AreByPart seen.offers → Contains seen.bids bid
    → Contains seen.offers offer → offer.part < 32 → pair_at seen (place_of bid offer) ≡ pair_between (Some bid) (Some offer)
pair_at-rows seen bid offer bids offers in_bids in_offers narrow =
    let bid_part : place_of bid offer / 32 ≡ bid.part = omega arith in
    let offer_part : place_of bid offer % 32 ≡ offer.part = omega arith in
    let bid_is : row_of Bid (place_of bid offer / 32) seen ≡ Some bid = rw bid_part (row_found seen.bids bid bids in_bids) in
    let offer_is : row_of Offer (place_of bid offer % 32) seen ≡ Some offer =
    rw offer_part (row_found seen.offers offer offers in_offers) in
    rw (bid_is, offer_is) refl

-- the pair at a place leads the list from there on
pairs_from-here : (seen : Seen) (place : ℕ) (pair : Pair) → place < 1024 → pair_at seen place ≡ Some pair
    → pairs_from place seen ≡ pair ∷ pairs_from (place + 1) seen
pairs_from-here seen place pair below here =
    let count : 1024 - place ≡ suc (1024 - (place + 1)) = omega arith in
    rw (count, here) refl

-- the first pair leads the list, and those after its place follow
pub pairs_from-first : (seen : Seen) (low : ℕ) (pair : Pair) → AreByPart seen.bids → AreByPart seen.offers
    → IsFirstPair seen.bids seen.offers low pair → pairs_from low seen ≡ pair ∷ pairs_from (place_of pair.bid pair.offer + 1) seen
pairs_from-first seen low pair bids offers first =
    let here = pair_at-rows seen pair.bid pair.offer bids offers first.bid first.offer first.narrow ∙ first.is in
    pairs_from-past seen low (place_of pair.bid pair.offer) first.from (omega arith) first.first
    ∙ pairs_from-here seen (place_of pair.bid pair.offer) pair first.before_end here

-- the pair at a place is a pair of the view's rows
pair_between-in : (seen : Seen) (bid offer : Option Row) → ((b : Row) → bid ≡ Some b → Contains seen.bids b)
    → ((o : Row) → offer ≡ Some o → Contains seen.offers o) → IfSome (pair_between bid offer) (IsPairIn seen)
pair_between-in seen None offer in_bids in_offers = tt
pair_between-in seen (Some bid) None in_bids in_offers = tt
pair_between-in seen (Some bid) (Some offer) in_bids in_offers = by_tests (eqb bid.part offer.part) (ltb bid.price offer.price) refl refl
  where
    by_tests : (one below : Bool) → eqb bid.part offer.part ≡ one → ltb bid.price offer.price ≡ below
        → IfSome (cond (one || below) None (Some (pair_of bid offer))) (IsPairIn seen)
    by_tests true below is_one is_below = tt
    by_tests false true is_one is_below = tt
    by_tests false false is_one is_below =
        record {
          bid = in_bids bid refl;
          offer = in_offers offer refl;
          met = record { two = eqb-false bid.part offer.part is_one; meet = ltb-false bid.price offer.price is_below };
          is = refl;
        }

pair_at-in : (seen : Seen) (place : ℕ) → IfSome (pair_at seen place) (IsPairIn seen)
pair_at-in seen place =
    pair_between-in seen (row_of Bid (place / 32) seen) (row_of Offer (place % 32) seen)
    (λ bid is. (found (λ row. eqb row.part (place / 32)) seen.bids bid is).0)
    (λ offer is. (found (λ row. eqb row.part (place % 32)) seen.offers offer is).0)

-- rows that lock or cross are a pair
pair_between-met : (bid offer : Row) → LockOrCross bid offer → pair_between (Some bid) (Some offer) ≡ Some (pair_of bid offer)
pair_between-met bid offer met = rw (ne_eqb bid.part offer.part met.two, le-ltb bid.price offer.price met.meet) refl

place_is_there : (place : ℕ) → place < 1024 → Contains (range_with_len 0 1024) place
place_is_there place below = (place, below, get_or-range_with_len 0 1024 place place below ∙ zero-add place)

-- the pairs from the first place on are those of the view
pub lists_pairs : (seen : Seen) → IsOfRoster seen.bids → IsOfRoster seen.offers → ListsPairs seen
lists_pairs seen bids offers =
    record {
      each_is = All-filter_map (IsPairIn seen) (pair_at seen) (range_with_len 0 1024) (pair_at-in seen);
      each_is_there = λ bid offer in_bids in_offers met.
          let bid_narrow : bid.part < 32 = All-contains (λ row. row.part < 32) seen.bids bid bids.narrow in_bids in
          let offer_narrow : offer.part < 32 = All-contains (λ row. row.part < 32) seen.offers offer offers.narrow in_offers in
          Contains-filter_map (pair_at seen) (range_with_len 0 1024) (place_of bid offer) (pair_of bid offer)
          (place_is_there (place_of bid offer) (omega arith))
          (pair_at-rows seen bid offer bids.rising offers.rising in_bids in_offers offer_narrow ∙ pair_between-met bid offer met);
    }
