-- A walk over rows by participant meets each place in order.
use Rattle.std.proofs.Common.{◌≡◌, ℕ, ◌+◌, ◌-◌, ◌<◌, ◌≤◌, List, [], ◌∷◌, ◌++◌, length, get_or, take, map, arith, sym, ◌∙◌, ap, subst, inl}
use Rattle.std.proofs.Common.{inr, ◌⊎◌}
use Rattle.std.specs.List.{Contains}
use Rattle.std.proofs.lemmas.Bool.{cases_lt, cases_order}
use Rattle.std.proofs.lemmas.List.{take_more, get_or_default, get_or-map, length-map, get_or-take, length-take, take_all}
use Rattle.std.proofs.lemmas.List.Elements.{Contains-push_cases}
use Rattle.std.proofs.lemmas.List.Kept.{AllPairs-from_increasing}
use Rattle.nms_board.specs.declared.row.Row.{Row}
use Rattle.nms_nbbo.specs.declared.pair.Pair.{Pair}
use Rattle.nms_nbbo.specs.Pairs.{place_of}
use Rattle.nms_nbbo.specs.Walk.{AreByPart, NoPair, IsFirstPair}

-- a later row is of a later participant
pub part_rises : (rows : List Row) (i j : ℕ) (d : Row) → AreByPart rows → i < j → j < length rows
    → (get_or rows i d).part < (get_or rows j d).part
part_rises rows i j d rising lt below =
    let mapped : j < length (map (λ row. row.part) rows) = omega (arith, length-map rows (λ row. row.part)) in
    let h = AllPairs-from_increasing (map (λ row. row.part) rows) rising i j 0 lt mapped in
    omega (arith, get_or-map (λ row. row.part) rows i d 0, get_or-map (λ row. row.part) rows j d 0)

-- a row of no later participant is that row or is before it
pub before_or_same : (rows : List Row) (i : ℕ) (row other : Row) → AreByPart rows → i < length rows → row ≡ get_or rows i row
    → Contains rows other → other.part ≤ row.part → Contains (take i rows) other ⊎ (other ≡ row)
before_or_same rows i row other rising below is (k, in_rows, at) le =
    elim (cases_order k i) [
      | inl e ↦ inr (sym at ∙ ap (λ n. get_or rows n other) e ∙ get_or_default rows i other row below ∙ sym is)
      | inr (inl lt) ↦ inl (k, omega (arith, length-take i rows), get_or-take i rows k other lt ∙ at)
      | inr (inr gt) ↦
          let row_is : row.part ≡ (get_or rows i row).part = ap (λ (r : Row). r.part) is in
          let other_is : (get_or rows k row).part ≡ other.part = ap (λ (r : Row). r.part) (get_or_default rows k row other in_rows ∙ at) in
          absurd (omega (arith, part_rises rows i k row rising gt in_rows))
    ]

contains_only : {X : Type 0} (x y : X) → Contains (x ∷ []) y → y ≡ x
contains_only x y h = grind arith

-- one more offer was examined
pub NoPair-more_offer : (bids offers : List Row) (i low high : ℕ) (offer : Row) → i < length offers → offer ≡ get_or offers i offer
    → NoPair bids (take i offers) low high → NoPair bids (offer ∷ []) low high → NoPair bids (take (i + 1) offers) low high
NoPair-more_offer bids offers i low high offer below is before here bid other in_bids in_offers from to =
    let more : take (i + 1) offers ≡ take i offers ++ offer ∷ [] = take_more offers i offer below
    ∙ ap (λ x. take i offers ++ x ∷ []) (sym is) in
    elim (Contains-push_cases (take i offers) offer other (subst (λ rows. Contains rows other) more in_offers)) [
      | inl earlier ↦ before bid other in_bids earlier from to
      | inr same ↦ here bid other in_bids (0, omega arith, same) from to
    ]

-- one more bid was examined
pub NoPair-more_bid : (bids offers : List Row) (i low high : ℕ) (bid : Row) → i < length bids → bid ≡ get_or bids i bid
    → NoPair (take i bids) offers low high → NoPair (bid ∷ []) offers low high → NoPair (take (i + 1) bids) offers low high
NoPair-more_bid bids offers i low high bid below is before here other offer in_bids in_offers from to =
    let more : take (i + 1) bids ≡ take i bids ++ bid ∷ [] = take_more bids i bid below ∙ ap (λ x. take i bids ++ x ∷ []) (sym is) in
    elim (Contains-push_cases (take i bids) bid other (subst (λ rows. Contains rows other) more in_bids)) [
      | inl earlier ↦ before other offer earlier in_offers from to
      | inr same ↦ here other offer (0, omega arith, same) in_offers from to
    ]

-- the offers before one of them are those at a lesser place
pub NoPair-before_offer : (bid offer : Row) (offers : List Row) (i low high : ℕ) → AreByPart offers → i < length offers
    → offer ≡ get_or offers i offer → place_of bid offer ≤ high → NoPair (bid ∷ []) (take i offers) low high
    → NoPair (bid ∷ []) offers low (place_of bid offer)
NoPair-before_offer bid offer offers i low high rising below is within none own other in_bids in_offers from to =
    let own_is : own.part ≡ bid.part = ap (λ (r : Row). r.part) (contains_only bid own in_bids) in
    elim (before_or_same offers i offer other rising below is in_offers (omega arith)) [
      | inl earlier ↦ none own other in_bids earlier from (omega arith)
      | inr same ↦ let same_part : other.part ≡ offer.part = ap (λ (r : Row). r.part) same in absurd (omega arith)
    ]

-- only the bids before one of them, and its own offers, are at a lesser place
pub NoPair-before_bid : (bid offer : Row) (bids offers : List Row) (i low high : ℕ) → AreByPart bids → i < length bids
    → bid ≡ get_or bids i bid → offer.part < 32 → place_of bid offer ≤ high → NoPair (take i bids) offers low high
    → NoPair (bid ∷ []) offers low (place_of bid offer) → NoPair bids offers low (place_of bid offer)
NoPair-before_bid bid offer bids offers i low high rising below is narrow within none own other against in_bids in_offers from to =
    elim (before_or_same bids i bid other rising below is in_bids (omega arith)) [
      | inl earlier ↦ none other against earlier in_offers from (omega arith)
      | inr same ↦ own other against (0, omega arith, sym same) in_offers from to
    ]

-- a pair with one offer, and none with an earlier offer, is the bid's first
pub IsFirstPair-among_offers : (bid offer : Row) (offers : List Row) (i low : ℕ) (pair : Pair) → AreByPart offers → i < length offers
    → offer ≡ get_or offers i offer → NoPair (bid ∷ []) (take i offers) low 1024 → IsFirstPair (bid ∷ []) (offer ∷ []) low pair
    → IsFirstPair (bid ∷ []) offers low pair
IsFirstPair-among_offers bid offer offers i low pair rising below is none found =
    let of_offer : pair.offer ≡ offer = contains_only offer pair.offer found.offer in
    let of_bid : pair.bid ≡ bid = contains_only bid pair.bid found.bid in
    let bid_part : pair.bid.part ≡ bid.part = ap (λ (r : Row). r.part) of_bid in
    let offer_part : pair.offer.part ≡ offer.part = ap (λ (r : Row). r.part) of_offer in
    let within : place_of bid offer ≤ 1024 = omega arith in
    record {
      bid = found.bid;
      offer = rw of_offer (i, below, sym is);
      narrow = found.narrow;
      before_end = found.before_end;
      from = found.from;
      is = found.is;
      first = rw of_bid (rw of_offer (NoPair-before_offer bid offer offers i low 1024 rising below is within none));
    }

-- a first pair of one bid, and none of an earlier bid, is the first of all
pub IsFirstPair-among_bids : (bid : Row) (bids offers : List Row) (i low : ℕ) (pair : Pair) → AreByPart bids → i < length bids
    → bid ≡ get_or bids i bid → NoPair (take i bids) offers low 1024 → IsFirstPair (bid ∷ []) offers low pair
    → IsFirstPair bids offers low pair
IsFirstPair-among_bids bid bids offers i low pair rising below is none found =
    let of_bid : pair.bid ≡ bid = contains_only bid pair.bid found.bid in
    let bid_part : pair.bid.part ≡ bid.part = ap (λ (r : Row). r.part) of_bid in
    let within : place_of bid pair.offer ≤ 1024 = omega arith in
    let own : NoPair (bid ∷ []) offers low (place_of bid pair.offer) =
    subst (λ (r : Row). NoPair (bid ∷ []) offers low (place_of r pair.offer)) of_bid found.first in
    record {
      bid = rw of_bid (i, below, sym is);
      offer = found.offer;
      narrow = found.narrow;
      before_end = found.before_end;
      from = found.from;
      is = found.is;
      first = rw of_bid (NoPair-before_bid bid pair.offer bids offers i low 1024 rising below is found.narrow within none own);
    }

-- all offers were examined
pub NoPair-all_offers : (bids offers : List Row) (i low high : ℕ) → length offers ≤ i → NoPair bids (take i offers) low high
    → NoPair bids offers low high
NoPair-all_offers bids offers i low high end none = subst (λ rows. NoPair bids rows low high) (take_all i offers end) none

-- all bids were examined
pub NoPair-all_bids : (bids offers : List Row) (i low high : ℕ) → length bids ≤ i → NoPair (take i bids) offers low high
    → NoPair bids offers low high
NoPair-all_bids bids offers i low high end none = subst (λ rows. NoPair rows offers low high) (take_all i bids end) none

-- no row is of a later participant than the last one
part_up_to_last : (rows : List Row) (last row : Row) → AreByPart rows → 0 < length rows → last ≡ get_or rows (length rows - 1) last
    → Contains rows row → row.part ≤ last.part
part_up_to_last rows last row rising some is (k, in_rows, at) =
    let last_is : last.part ≡ (get_or rows (length rows - 1) last).part = ap (λ (r : Row). r.part) is in
    let row_is : (get_or rows k last).part ≡ row.part = ap (λ (r : Row). r.part) (get_or_default rows k last row in_rows ∙ at) in
    elim (cases_lt k (length rows - 1)) [
      | inl earlier ↦ let h = part_rises rows k (length rows - 1) last rising earlier (omega arith) in omega arith
      | inr later ↦
          let same : k ≡ length rows - 1 = omega arith in
          let at_last : (get_or rows k last).part ≡ (get_or rows (length rows - 1) last).part = ap (λ n. (get_or rows n last).part) same in
          omega arith
    ]

-- no pair of a bid is after that with the last offer
pub NoPair-past_last : (bid last : Row) (offers : List Row) (low high : ℕ) → AreByPart offers → 0 < length offers
    → last ≡ get_or offers (length offers - 1) last → place_of bid last < low → NoPair (bid ∷ []) offers low high
NoPair-past_last bid last offers low high rising some is passed own other in_bids in_offers from to =
    let own_is : own.part ≡ bid.part = ap (λ (r : Row). r.part) (contains_only bid own in_bids) in
    absurd (omega (arith, part_up_to_last offers last other rising some is in_offers))
