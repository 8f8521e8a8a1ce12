-- Rows are ranked in a strict order; what follows for the best of them.
use Rattle.std.specs.Prelude.{All, IfSome, MatchOption}
use Rattle.std.proofs.Common.{◌≡◌, ◌≢◌, ◌<◌, ◌≤◌, ℕ, false, cond, AllPairs, List, [], ◌∷◌, length, get_or, refl, arith, Option, Some, None}
use Rattle.std.proofs.Common.{sym, ap, ◌∙◌, subst, inl, inr, ltb, eqb}
use Rattle.std.specs.List.{IsFirstBest}
use Rattle.std.specs.Option.{option_map}
use Rattle.std.specs.Cmp.{IsStrictWeakOrder}
use Rattle.std.proofs.lemmas.List.{get_or_default}
use Rattle.std.proofs.lemmas.Bool.{cases_order, eqb-true}
use Rattle.std.proofs.lemmas.Bool.Decides.{nat_tests}
use Rattle.std.proofs.lemmas.List.Elements.{All-contains}
use Rattle.std.proofs.lemmas.List.MinMax.{IsFirstBest-from_best_of}
use Rattle.nms_quote.specs.declared.side_quote.Side.{Side}
use Rattle.nms_quote.specs.declared.side_quote.Side.TheVariants.{Bid, Offer}
use Rattle.nms_board.specs.declared.row.Row.{Row}
use Rattle.nms_nbbo.specs.declared.market_kind.Market.{Market}
use Rattle.nms_nbbo.specs.declared.market_kind.Market.TheVariants as market
use Rattle.nms_nbbo.specs.Laws.{RankAlike}
use Rattle.nms_nbbo.specs.Market.{market_of}
use Rattle.nms_board.specs.Ranking.{rank_among, ranked_at, ranks_above}
use Rattle.nms_board.proofs.Offered.{above_one_way}
use Rattle.nms_nbbo.specs.Best.{IsBest, IsBestOf}
use Rattle.nms_nbbo.proofs.ListLemmas.{found, none_counted}

-- if a row does not rank above a second, nor the second above a third, the row does not rank above the third
above_chain : (side : Side) (a b c : Row) → ranks_above side a b ≡ false → ranks_above side b c ≡ false → ranks_above side a c ≡ false
above_chain Bid a b c h k = grind (arith, nat_tests)
above_chain Offer a b c h k = grind (arith, nat_tests)

pub above_is_order : (side : Side) → IsStrictWeakOrder (ranks_above side)
above_is_order side = record { one_way = above_one_way side; chain = above_chain side }

-- the first of the rows that none ranks above is the best
best_from_first_best : (side : Side) (rows : List Row) (place : ℕ) (row : Row) → IsFirstBest (ranks_above side) rows (length rows) place
    → get_or rows place row ≡ row → IsBest side rows row
best_from_first_best side rows place row h is =
    record {
      among = (place, h.0, is);
      highest = λ k d below. rw (get_or_default rows place d row h.0 ∙ is) at (h.1 k d below);
    }

-- the row at the first place is the best
pub first_is_best : (side : Side) (held : List Row) (best : Option Row) → best ≡ ranked_at side held 0
    → MatchOption best (length held ≤ 0) (λ row. 0 < length held) → IsBestOf side held best
first_is_best side [] None first there = refl
first_is_best side (row ∷ held) None first there = absurd (omega (arith, there))
first_is_best side held (Some row) first there =
    let (among, passed) = found (λ one. eqb (rank_among side held one) 0) held row (sym first) in
    record {
      among = among;
      highest = none_counted (λ other. ranks_above side other row) held (eqb-true (rank_among side held row) 0 passed);
    }

-- two rows of which neither ranks above the other rank alike
pub unranked_alike : (side : Side) (row other : Row) → ranks_above side row other ≡ false → ranks_above side other row ≡ false
    → RankAlike row other
unranked_alike Bid row other h k = record {
  price = grind (arith, nat_tests);
  size = grind (arith, nat_tests);
  receipt = grind (arith, nat_tests);
}
unranked_alike Offer row other h k = record {
  price = grind (arith, nat_tests);
  size = grind (arith, nat_tests);
  receipt = grind (arith, nat_tests);
}

-- two best rows of a side rank alike
pub best_alike : (side : Side) (rows : List Row) (row other : Row) → IsBest side rows row → IsBest side rows other → RankAlike row other
best_alike side rows row other best best' =
    unranked_alike side row other
    (All-contains (λ r. ranks_above side r other ≡ false) rows row best'.highest best.among)
    (All-contains (λ r. ranks_above side r row ≡ false) rows other best.highest best'.among)

-- an empty side has no best row
pub none_best : (side : Side) (row : Row) → IsBest side [] row → ⊥
none_best side row best = omega (arith, best.among.1)

-- two best rows of a side have one price, and two absent ones have none
IsBestOf-price : (side : Side) (rows : List Row) (best best' : Option Row) → IsBestOf side rows best → IsBestOf side rows best'
    → option_map (λ row. row.price) best ≡ option_map (λ row. row.price) best'
IsBestOf-price side rows None None empty empty' = refl
IsBestOf-price side rows None (Some row) empty is = absurd (none_best side row (subst (λ r. IsBest side r row) empty is))
IsBestOf-price side rows (Some row) None is empty = absurd (none_best side row (subst (λ r. IsBest side r row) empty is))
IsBestOf-price side rows (Some row) (Some other) is is' = ap Some (best_alike side rows row other is is').price

-- the market's state depends only on prices
market_at : Option ℕ → Option ℕ → Market
market_at None None = market.Empty
market_at None (Some offer) = market.OneSided
market_at (Some bid) None = market.OneSided
market_at (Some bid) (Some offer) = cond (ltb bid offer) market.Normal (cond (eqb bid offer) market.Locked market.Crossed)

market_of-market_at : (bid offer : Option Row) → market_of bid offer
    ≡ market_at (option_map (λ row. row.price) bid) (option_map (λ row. row.price) offer)
unfolding market_at
market_of-market_at None None = refl
market_of-market_at None (Some offer) = refl
market_of-market_at (Some bid) None = refl
market_of-market_at (Some bid) (Some offer) = refl

-- it is the same for any best rows
pub market_of-best : (bids offers : List Row) (bid bid' offer offer' : Option Row) → IsBestOf Bid bids bid → IsBestOf Bid bids bid'
    → IsBestOf Offer offers offer → IsBestOf Offer offers offer' → market_of bid offer ≡ market_of bid' offer'
market_of-best bids offers bid bid' offer offer' b b' o o' =
    rw (
      market_of-market_at bid offer,
      market_of-market_at bid' offer',
      IsBestOf-price Bid bids bid bid' b b',
      IsBestOf-price Offer offers offer offer' o o',
    ) refl

-- a side with rows has a best row
pub some_best : (side : Side) (rows : List Row) → rows ≢ [] → (row : Row) × IsBest side rows row
some_best side [] some = absurd (some refl)
some_best side (row ∷ rows) some =
    let (place, first, is) = IsFirstBest-from_best_of (above_is_order side) row rows in
    (_, best_from_first_best side (row ∷ rows) place _ first (get_or_default (row ∷ rows) place _ row first.0 ∙ is))

-- if no two rows have one receipt, one row is best
pub one_best : (side : Side) (rows : List Row) (row other : Row) → AllPairs (λ row other. row.receipt ≢ other.receipt) rows
    → IsBest side rows row → IsBest side rows other → row ≡ other
one_best side rows row other differ best best' =
    let receipts : row.receipt ≡ other.receipt = (best_alike side rows row other best best').receipt in
    let (i, in_rows, at) = best.among in
    let (j, in_rows', at') = best'.among in
    let row_receipt : (get_or rows i row).receipt ≡ row.receipt = ap (λ (r : Row). r.receipt) at in
    let other_receipt : (get_or rows j row).receipt ≡ other.receipt =
    ap (λ (r : Row). r.receipt) (get_or_default rows j row other in_rows' ∙ at') in
    elim (cases_order i j) [
      | inl e ↦ sym at ∙ ap (λ n. get_or rows n row) e ∙ get_or_default rows j row other in_rows' ∙ at'
      | inr (inl before) ↦ absurd (differ i j row before in_rows' (row_receipt ∙ receipts ∙ sym other_receipt))
      | inr (inr after) ↦ absurd (differ j i row after in_rows (other_receipt ∙ sym receipts ∙ sym row_receipt))
    ]

-- the best row is of a participant of the rows
pub best_part : (side : Side) (rows : List Row) (best : Option Row) (parts : ℕ) → IsBestOf side rows best
    → All (λ (row : Row). row.part < parts) rows → IfSome best (λ row. row.part < parts)
best_part side rows None parts is all = tt
best_part side rows (Some row) parts is all = All-contains (λ (r : Row). r.part < parts) rows row all is.among
