-- A worked example of a reduced view: three participants N, P and Z offer, and a router has taken shares of each.
use Rattle.std.specs.Prelude.{ℕ, ◌≡◌, List, [], ◌∷◌}
use Rattle.nms_quote.specs.declared.side_quote.Side.TheVariants.{Bid, Offer}
use Rattle.nms_board.specs.Examples.{n, p, row}
use Rattle.nms_board.specs.Ranking.{ranked, total_size}
use Rattle.nms_board.specs.View.{Seen}
use Rattle.nms_calls.specs.RowNumbers.{market_between}
use Rattle.nms_calls.specs.ViewReduced.{reduced_view}

-- Z's place; N is at 0 and P at 1
abbrev pub z : ℕ
z = 2

-- Z offers best, then P with more shares than N at the same price
abbrev pub shown : Seen
shown = record {
  version = 9;
  sym = 4;
  bids = row n 99900 400 6 ∷ row p 99950 100 8 ∷ [];
  offers = row n 100000 300 3 ∷ row p 100000 500 5 ∷ row z 99950 200 7 ∷ [];
}

-- N is left as it is, of P at most 40 shares are shown, and of Z none
abbrev pub most : List ℕ
most = 4294967295 ∷ 40 ∷ 0 ∷ []

abbrev pub left : Seen
left = reduced_view Offer most shown

-- at most the shares that each has
abbrev pub as_many : List ℕ
as_many = 300 ∷ 500 ∷ 200 ∷ []

pub record ExampleHolds : Type 0 where
  pub version_stays : left.version ≡ 9
  pub symbol_stays : left.sym ≡ 4
  pub bids_stay : left.bids ≡ shown.bids
  pub offers_are_reduced : left.offers ≡ row n 100000 300 3 ∷ row p 100000 40 5 ∷ []
  pub before_p_ranks_above_n : ranked Offer shown.offers ≡ row z 99950 200 7 ∷ row p 100000 500 5 ∷ row n 100000 300 3 ∷ []
  pub then_n_ranks_above_p : ranked Offer left.offers ≡ row n 100000 300 3 ∷ row p 100000 40 5 ∷ []
  pub the_total_is_of_what_is_left : total_size left.offers ≡ 340
  pub the_market_was_locked : market_between shown.bids shown.offers ≡ 3
  pub it_is_normal_then : market_between left.bids left.offers ≡ 2
  pub a_seller_reduces_bids : (reduced_view Bid most shown).bids ≡ row n 99900 400 6 ∷ row p 99950 40 8 ∷ []
  pub enough_changes_nothing : reduced_view Offer as_many shown ≡ shown
