-- Quotations of two participants that lock or cross each other (17 CFR 242.610(d) as adopted in 2005: a protected
-- quotation, or any quotation by a manual one). Which of a pair locks or crosses, and the clause that is named, is this
-- product's own rule.
use Rattle.std.specs.Prelude.{ℕ, ◌+◌, ◌*◌, ◌-◌, ◌/◌, ◌%◌, ◌==◌, ◌||◌, Bool, List, nat_lt, Option, Some, None, not, if◌then◌else◌}
use Rattle.std.specs.List.{filter_map, range_with_len}
use Rattle.nms_quote.specs.declared.side_quote.Side.TheVariants.{Bid, Offer}
use Rattle.nms_board.specs.View.{Seen, row_of}
use Rattle.nms_board.specs.declared.row.Row.{Row}
use Rattle.nms_nbbo.specs.declared.pair.Pair.{Pair}
use Rattle.nms_nbbo.specs.declared.pair.Clause.{Clause}
use Rattle.nms_nbbo.specs.declared.pair.Clause.TheVariants as clause

-- the later of the two locks or crosses: an earlier protected quotation; else, being manual itself,
-- any quotation; else neither clause holds
abbrev pub clause_of : Row → Row → Clause
clause_of earlier later = if earlier.protected then clause.Protected else (if not later.protected then clause.Manual else clause.Neither)

-- whether the bid was received after the offer
abbrev pub bid_is_later : Row → Row → Bool
bid_is_later bid offer = nat_lt offer.receipt bid.receipt

abbrev pub pair_of : Row → Row → Pair
pair_of bid offer = record {
  bid = bid;
  offer = offer;
  crossed = nat_lt offer.price bid.price;
  later = if bid_is_later bid offer then bid.part else offer.part;
  clause = if bid_is_later bid offer then clause_of offer bid else clause_of bid offer;
}

-- two rows of different participants, the bid's price at the offer's or above
abbrev pub pair_between : Option Row → Option Row → Option Pair
pair_between None offer = None
pair_between (Some bid) None = None
pair_between (Some bid) (Some offer) = if (bid.part == offer.part) || nat_lt bid.price offer.price then None else Some (pair_of bid offer)

-- the place of a bid and an offer: 32 times the bid's participant, plus the offer's
abbrev pub place_of : Row → Row → ℕ
place_of bid offer = 32 * bid.part + offer.part

-- the pair at a place
abbrev pub pair_at : Seen → ℕ → Option Pair
pair_at seen place = pair_between (row_of Bid (place / 32) seen) (row_of Offer (place % 32) seen)

-- the pairs from a place on, each once, in order of place
abbrev pub pairs_from : ℕ → Seen → List Pair
pairs_from place seen = filter_map (pair_at seen) (range_with_len place (1024 - place))
