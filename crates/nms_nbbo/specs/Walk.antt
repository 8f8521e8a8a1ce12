-- A walk from place to place meets the pairs row by row, not place by place.
use Rattle.std.specs.Prelude.{ℕ, ◌≡◌, ◌<◌, ◌≤◌, List, Option, Some, None, Contains, MatchOption, map}
use Rattle.std.specs.List.Sorted.{IsStrictlyIncreasing}
use Rattle.nms_board.specs.declared.row.Row.{Row}
use Rattle.nms_nbbo.specs.declared.pair.Pair.{Pair}
use Rattle.nms_nbbo.specs.Pairs.{pair_between, place_of}

-- rows by participant place
abbrev pub AreByPart : List Row → Type 0
AreByPart rows = IsStrictlyIncreasing (map (λ row. row.part) rows)

-- no pair of those bids and offers at a place from `low` up to `high`
abbrev pub NoPair : List Row → List Row → ℕ → ℕ → Type 0
NoPair bids offers low high =
    (bid offer : Row) → Contains bids bid → Contains offers offer → low ≤ place_of bid offer → place_of bid offer < high
    → pair_between (Some bid) (Some offer) ≡ None

-- the pair at the least place from `low` on
pub record IsFirstPair (bids offers : List Row) (low : ℕ) (pair : Pair) : Type 0 where
  pub bid : Contains bids pair.bid
  pub offer : Contains offers pair.offer
  pub narrow : pair.offer.part < 32
  pub before_end : place_of pair.bid pair.offer < 1024
  pub from : low ≤ place_of pair.bid pair.offer
  pub is : pair_between (Some pair.bid) (Some pair.offer) ≡ Some pair
  pub first : NoPair bids offers low (place_of pair.bid pair.offer)

-- the first pair, or none if and only if there is none from `low` on
abbrev pub IsFirstPairOf : List Row → List Row → ℕ → Option Pair → Type 0
IsFirstPairOf bids offers low found = MatchOption found (NoPair bids offers low 1024) (IsFirstPair bids offers low)
