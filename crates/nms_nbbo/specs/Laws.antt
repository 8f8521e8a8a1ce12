-- Laws of the definitions: properties of the ranking, the market and the pairs.
use Rattle.std.specs.Prelude.{◌≡◌, ◌<◌, ◌≤◌, ◌≢◌, ◌⊎◌, true, false, All, Contains, List, []}
use Rattle.nms_quote.specs.declared.side_quote.Side.{Side}
use Rattle.nms_board.specs.View.{Seen}
use Rattle.nms_board.specs.declared.row.Row.{Row}
use Rattle.nms_nbbo.specs.declared.market_kind.Market.{Market}
use Rattle.nms_nbbo.specs.declared.market_kind.Market.TheVariants as market
use Rattle.nms_nbbo.specs.declared.pair.Pair.{Pair}
use Rattle.nms_nbbo.specs.Pairs.{pair_of, pairs_from}
use Rattle.nms_board.specs.Ranking.{ranks_above}
use Rattle.nms_nbbo.specs.Walk.{AreByPart}

-- equal in everything that ranks rows
pub record RankAlike (row other : Row) : Type 0 where
  pub price : row.price ≡ other.price
  pub size : row.size ≡ other.size
  pub receipt : row.receipt ≡ other.receipt

-- a strict order of rows, total if rows differ in price, size or receipt
pub record IsStrictTotalOrder (side : Side) : Type 0 where
  pub irreflexive : (row : Row) → ranks_above side row row ≡ false
  pub transitive : (a b c : Row) → ranks_above side a b ≡ true → ranks_above side b c ≡ true → ranks_above side a c ≡ true
  pub total : (row other : Row) → ¬ RankAlike row other → (ranks_above side row other ≡ true) ⊎ (ranks_above side other row ≡ true)

-- the relation holds of each bid and each offer
abbrev pub OfEach : (Row → Row → Type 0) → List Row → List Row → Type 0
OfEach R bids offers = (bid offer : Row) → Contains bids bid → Contains offers offer → R bid offer

-- the relation holds of some bid and some offer
abbrev pub OfSome : (Row → Row → Type 0) → List Row → List Row → Type 0
OfSome R bids offers = (bid : Row) × (offer : Row) × Contains bids bid × Contains offers offer × R bid offer

-- what a market's state says of all bids and offers
abbrev pub SaysOf : Market → List Row → List Row → Type 0
SaysOf market.Empty bids offers = (bids ≡ []) × (offers ≡ [])
SaysOf market.OneSided bids offers = ((bids ≡ []) × (offers ≢ [])) ⊎ ((bids ≢ []) × (offers ≡ []))
SaysOf market.Normal bids offers = (bids ≢ []) × (offers ≢ []) × OfEach (λ bid offer. bid.price < offer.price) bids offers
SaysOf market.Locked bids offers = OfEach (λ bid offer. bid.price ≤ offer.price) bids offers
    × OfSome (λ bid offer. bid.price ≡ offer.price) bids offers
SaysOf market.Crossed bids offers = OfSome (λ bid offer. offer.price < bid.price) bids offers

-- quotations of two participants, the bid's price at the offer's or above
pub record LockOrCross (bid offer : Row) : Type 0 where
  pub two : bid.part ≢ offer.part
  pub meet : offer.price ≤ bid.price

-- a pair of a view's rows
pub record IsPairIn (seen : Seen) (pair : Pair) : Type 0 where
  pub bid : Contains seen.bids pair.bid
  pub offer : Contains seen.offers pair.offer
  pub met : LockOrCross pair.bid pair.offer
  pub is : pair ≡ pair_of pair.bid pair.offer

-- rows by participant place, of which a roster has 32
pub record IsOfRoster (rows : List Row) : Type 0 where
  pub rising : AreByPart rows
  pub narrow : All (λ row. row.part < 32) rows

-- the pairs from the first place on are those of the view, and no other
pub record ListsPairs (seen : Seen) : Type 0 where
  pub each_is : All (IsPairIn seen) (pairs_from 0 seen)
  pub each_is_there : (bid offer : Row) → Contains seen.bids bid → Contains seen.offers offer → LockOrCross bid offer
      → Contains (pairs_from 0 seen) (pair_of bid offer)
