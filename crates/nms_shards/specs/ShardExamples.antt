-- Worked examples: two participants N and P, two symbols of a whole day, and a shard that has only the second symbol. The
-- right-hand side gives by hand what is said and shown.
use Rattle.std.specs.Prelude.{ℕ, ◌≡◌, true, [], ◌∷◌, ◌++◌, Option, Some, None}
use Rattle.nms_quote.specs.Content.{Content}
use Rattle.nms_quote.specs.Roster.{Sizes}
use Rattle.nms_quote.specs.Tape.{Tape}
use Rattle.nms_quote.specs.declared.side_quote.Side.TheVariants.{Bid, Offer}
use Rattle.nms_quote.specs.declared.side_quote.QState.TheVariants.{Automated}
use Rattle.nms_quote.specs.declared.change.Change.{Change}
use Rattle.nms_quote.specs.declared.change.Change.TheVariants as change
use Rattle.nms_board.specs.declared.row.Row.{Row}
use Rattle.nms_shards.specs.OfSymbol.{of_symbol, shows}

-- the whole day's roster, and the shard's
abbrev pub two : Sizes
two = record { parts = 2; lots = 100 ∷ 40 ∷ [] }

abbrev pub one : Sizes
one = record { parts = 2; lots = 40 ∷ [] }

-- n shares at a price in 1/10,000 dollar
abbrev pub at : ℕ → ℕ → Option Content
at price shares = Some (record { price = price; shares = shares })

-- an automated bid
abbrev pub bid : (part sym price shares : ℕ) → Change
bid part sym price shares = change.Quote part sym Automated (at price shares) None

-- P and then N bid as much for the second symbol; between them N bids for the first
abbrev pub day : Tape
day = bid 1 1 99900 80 ∷ bid 0 0 250000 300 ∷ bid 0 1 99900 80 ∷ []

-- the shard's tape
abbrev pub part : Tape
part = bid 1 0 99900 80 ∷ bid 0 0 99900 80 ∷ []

-- N withdraws from every symbol
abbrev pub withdrawn : Tape
withdrawn = change.Withdraw 0 ∷ []

-- a row as it is shown, without the number of its receipt
abbrev pub shown : (part price size : ℕ) → Row
shown part price size = record { part = part; price = price; size = size; receipt = 0; protected = true }

pub record ExamplesHold : Type 0 where
  pub the_shard_says_the_same : of_symbol 1 day ≡ of_symbol 0 part
  pub a_withdrawal_is_of_both : of_symbol 1 (day ++ withdrawn) ≡ of_symbol 0 (part ++ withdrawn)
  pub the_first_symbol_is_another : of_symbol 0 day ≡ bid 0 0 250000 300 ∷ []
  pub the_earlier_bid_ranks_first : shows two day 1 Bid ≡ shown 1 99900 80 ∷ shown 0 99900 80 ∷ []
  pub so_it_does_in_the_shard : shows one part 0 Bid ≡ shown 1 99900 80 ∷ shown 0 99900 80 ∷ []
  pub one_bid_is_left : shows two (day ++ withdrawn) 1 Bid ≡ shown 1 99900 80 ∷ []
  pub no_offer_is_shown : shows one part 0 Offer ≡ []
