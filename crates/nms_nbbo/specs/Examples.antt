-- Worked examples of the definitions: four participants N, P, Y and Z in one symbol.
use Rattle.std.specs.Prelude.{ℕ, ◌≡◌, true, false, List, [], ◌∷◌, Some}
use Rattle.nms_quote.specs.declared.side_quote.Side.TheVariants.{Offer}
use Rattle.nms_board.specs.Examples.{n, p, row}
use Rattle.nms_board.specs.View.{Seen}
use Rattle.nms_board.specs.declared.row.Row.{Row}
use Rattle.nms_nbbo.specs.declared.market_kind.Market.TheVariants as market
use Rattle.nms_nbbo.specs.declared.pair.Clause.TheVariants as clause
use Rattle.nms_nbbo.specs.Market.{market_of}
use Rattle.nms_nbbo.specs.Pairs.{clause_of, pair_at, pairs_from}
use Rattle.nms_board.specs.Ranking.{protected_among}
use Rattle.nms_nbbo.specs.Best.{IsBest}

-- the places of Y and Z; N is at 0 and P at 1
abbrev pub y : ℕ
y = 2

abbrev pub z : ℕ
z = 3

-- a row that is not protected
abbrev pub manual : ℕ → ℕ → ℕ → ℕ → Row
manual part price size receipt = record (row part price size receipt) { protected = false }

-- what is seen after `version` changes
abbrev pub seen : ℕ → List Row → List Row → Seen
seen version bids offers = record { version = version; sym = 0; bids = bids; offers = offers }

-- N came later with more shares
abbrev pub larger_later : List Row
larger_later = row n 100000 500 2 ∷ row p 100000 300 1 ∷ []

-- P came later with the same size
abbrev pub equal_later : List Row
equal_later = row n 100000 500 2 ∷ row p 100000 500 3 ∷ []

abbrev pub normal : Seen
normal = seen 2 (row n 99800 100 1 ∷ []) (row n 100000 300 1 ∷ row p 100000 300 2 ∷ [])

-- N bids, and Z's manual offer comes at the same price
abbrev pub bid_of_n : Row
bid_of_n = row n 100000 100 1

abbrev pub locking_offer : Row
locking_offer = manual z 100000 100 2

abbrev pub locked : Seen
locked = seen 2 (bid_of_n ∷ []) (locking_offer ∷ [])

-- Z's offer comes down below N's bid
abbrev pub crossing_offer : Row
crossing_offer = manual z 99900 100 3

abbrev pub crossed : Seen
crossed = seen 3 (bid_of_n ∷ []) (crossing_offer ∷ [])

-- only Y bids above its own offer
abbrev pub own_bid : Row
own_bid = row y 100000 100 1

abbrev pub own_offer : Row
own_offer = row y 99900 100 1

abbrev pub one_participant : Seen
one_participant = seen 1 (own_bid ∷ []) (own_offer ∷ [])

pub record ExamplesHold : Type 0 where
  pub size_ranks_before_time : IsBest Offer larger_later (row n 100000 500 2)
  pub time_ranks_at_equal_size : IsBest Offer equal_later (row n 100000 500 2)
  pub best_of_a_normal_market : IsBest Offer normal.offers (row n 100000 300 1)
  pub below_is_normal : market_of (Some (row n 99800 100 1)) (Some (row n 100000 300 1)) ≡ market.Normal
  pub equal_prices_lock : market_of (Some bid_of_n) (Some locking_offer) ≡ market.Locked
  pub locking_pair : pairs_from 0 locked ≡ record {
    bid = bid_of_n;
    offer = locking_offer;
    crossed = false;
    later = z;
    clause =
        clause.Protected;
  } ∷ []
  pub at_its_place : pair_at locked 3 ≡ Some (record {
    bid = bid_of_n;
    offer = locking_offer;
    crossed = false;
    later = z;
    clause =
        clause.Protected;
  })
  pub higher_bid_crosses : market_of (Some bid_of_n) (Some crossing_offer) ≡ market.Crossed
  pub crossing_pair : pairs_from 0 crossed
      ≡ record { bid = bid_of_n; offer = crossing_offer; crossed = true; later = z; clause = clause.Protected } ∷ []
  pub one_participant_crosses : market_of (Some own_bid) (Some own_offer) ≡ market.Crossed
  pub and_makes_no_pair : pairs_from 0 one_participant ≡ []
  pub a_manual_one_is_not_protected : protected_among locked.offers ≡ []
  pub manual_against_manual : clause_of (manual n 100000 100 1) (manual z 100000 100 2) ≡ clause.Manual
  pub automated_against_manual : clause_of (manual n 100000 100 1) (row z 100000 100 2) ≡ clause.Neither
