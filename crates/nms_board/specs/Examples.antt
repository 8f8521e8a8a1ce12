-- Worked examples of the definitions: four participants N, P, Y and Z, one symbol that opens with round lots of
-- 100.
use Rattle.std.specs.Prelude.{ℕ, ◌≡◌, true, false, List, [], ◌∷◌, ◌++◌, Option, Some, None}
use Rattle.nms_quote.specs.Content.{Content}
use Rattle.nms_quote.specs.Roster.{Sizes}
use Rattle.nms_quote.specs.Tape.{Tape}
use Rattle.nms_quote.specs.declared.side_quote.Side.TheVariants.{Bid, Offer}
use Rattle.nms_quote.specs.declared.side_quote.QState.TheVariants.{Automated, Manual, Halted}
use Rattle.nms_quote.specs.declared.change.Change.{Change}
use Rattle.nms_quote.specs.declared.change.Change.TheVariants as change
use Rattle.nms_board.specs.Given.{are_rows, falls}
use Rattle.nms_board.specs.Quotation.{quotations}
use Rattle.nms_board.specs.Ranking.{ranked}
use Rattle.nms_board.specs.declared.row.Row.{Row}

abbrev pub four : Sizes
four = record { parts = 4; lots = 100 ∷ [] }

-- their places, and the symbol's
abbrev pub n : ℕ
n = 0

abbrev pub p : ℕ
p = 1

abbrev pub abc : ℕ
abc = 0

-- a number of shares at a price in 1/10,000 dollar
abbrev pub at : ℕ → ℕ → Option Content
at price shares = Some (record { price = price; shares = shares })

-- an automated quote of both sides
abbrev pub quote : ℕ → Option Content → Option Content → Change
quote part bid offer = change.Quote part abc Automated bid offer

-- a protected row
abbrev pub row : ℕ → ℕ → ℕ → ℕ → Row
row part price size receipt = record { part = part; price = price; size = size; receipt = receipt; protected = true }

-- 99 shares, less than a lot
abbrev pub odd_lot : Tape
odd_lot = quote n None (at 100000 99) ∷ []

abbrev pub round_lot : Tape
round_lot = odd_lot ++ quote n None (at 100000 250) ∷ []

-- P quotes more shares and loses its place in time to N
abbrev pub larger_later : Tape
larger_later = quote p None (at 100000 300) ∷ quote n None (at 100000 500) ∷ quote p None (at 100000 500) ∷ []

-- N repeats both sides, then lowers only its bid
abbrev pub repeated : Tape
repeated =
    quote n (at 99900 100) (at 100000 300) ∷ quote p None (at 100000 300)
    ∷ quote n (at 99900 100) (at 100000 300) ∷ quote n (at 99800 100) (at 100000 300) ∷ []

abbrev pub halted : Tape
halted = quote n (at 99900 100) None ∷ change.State n abc Halted ∷ []

abbrev pub lifted : Tape
lifted = halted ++ change.State n abc Automated ∷ []

abbrev pub manual : Tape
manual = halted ++ change.State n abc Manual ∷ []

abbrev pub withdrawn : Tape
withdrawn = quote n (at 99900 100) (at 100000 300) ∷ change.Withdraw n ∷ []

abbrev pub requoted : Tape
requoted = withdrawn ++ quote n (at 99900 100) (at 100000 300) ∷ []

-- fewer shares than a lot, of N and then of P
abbrev pub hidden : Tape
hidden = quote n None (at 100000 50) ∷ quote p None (at 100000 60) ∷ []

abbrev pub smaller_lot : Tape
smaller_lot = hidden ++ change.Lot abc 40 ∷ []

abbrev pub lot_of_one : Tape
lot_of_one = smaller_lot ++ change.Lot abc 1 ∷ []

-- N halts, the lot changes, and N quotes on
abbrev pub halted_over : Tape
halted_over = hidden ++ change.State n abc Halted ∷ change.Lot abc 40 ∷ []

abbrev pub lifted_over : Tape
lifted_over = halted_over ++ change.State n abc Automated ∷ []

abbrev pub bids : Tape → List Row
bids tape = quotations four tape abc Bid

abbrev pub offers : Tape → List Row
offers tape = quotations four tape abc Offer

-- the offers in rank order
abbrev pub ranked_offers : Tape → List Row
ranked_offers tape = ranked Offer (offers tape)

-- a side that a caller brings, best offer first: the larger size, then the worse price
abbrev pub brought : List Row
brought = row p 100000 500 3 ∷ row n 100000 300 2 ∷ record (row 3 100100 900 1) { protected = false } ∷ []

-- what each of the tapes shows, and what is tested of rows that a caller brings
pub record ExamplesHold : Type 0 where
  pub part_of_a_lot_is_no_offer : offers odd_lot ≡ []
  pub whole_lots_show : offers round_lot ≡ row n 100000 200 2 ∷ []
  pub more_shares_renew_the_receipt : offers larger_later ≡ row n 100000 500 2 ∷ row p 100000 500 3 ∷ []
  pub another_price_renews_the_receipt : bids repeated ≡ row n 99800 100 4 ∷ []
  pub a_repeated_side_keeps_its_receipt : offers repeated ≡ row n 100000 300 1 ∷ row p 100000 300 2 ∷ []
  pub a_halt_hides : bids halted ≡ []
  pub the_end_of_a_halt_shows_again : bids lifted ≡ row n 99900 100 1 ∷ []
  pub a_manual_quotation_is_not_protected : bids manual ≡ record (row n 99900 100 1) { protected = false } ∷ []
  pub a_withdrawal_leaves_no_bid : bids withdrawn ≡ []
  pub a_withdrawal_leaves_no_offer : offers withdrawn ≡ []
  pub a_bid_after_a_withdrawal_is_new : bids requoted ≡ row n 99900 100 3 ∷ []
  pub an_offer_after_a_withdrawal_is_new : offers requoted ≡ row n 100000 300 3 ∷ []
  pub less_than_a_lot_is_hidden : offers hidden ≡ []
  pub a_smaller_lot_brings_to_light : ranked_offers smaller_lot ≡ row n 100000 40 1 ∷ row p 100000 40 2 ∷ []
  pub a_lot_of_one_shows_all : ranked_offers lot_of_one ≡ row p 100000 60 2 ∷ row n 100000 50 1 ∷ []
  pub a_halt_hides_in_another_lot : offers halted_over ≡ row p 100000 40 2 ∷ []
  pub a_halt_lifted_shows_in_the_lot_of_then : ranked_offers lifted_over ≡ row n 100000 40 1 ∷ row p 100000 40 2 ∷ []
  pub best_first_is_in_order : falls Offer brought ≡ true
  pub offers_are_no_bids : falls Bid brought ≡ false
  pub less_first_is_out_of_order : falls Offer (row n 100000 300 2 ∷ row p 100000 500 3 ∷ []) ≡ false
  pub equal_rows_are_out_of_order : falls Offer (row n 100000 300 2 ∷ row p 100000 300 2 ∷ []) ≡ false
  pub rows_by_place_are_a_side : are_rows (row n 100000 300 2 ∷ row p 100000 500 3 ∷ []) ≡ true
  pub a_participant_twice_is_no_side : are_rows (row n 100000 300 2 ∷ row n 100000 500 3 ∷ []) ≡ false
  pub a_receipt_twice_is_no_side : are_rows (row n 100000 300 2 ∷ row p 100000 500 2 ∷ []) ≡ false
  pub no_shares_are_no_side : are_rows (row n 100000 0 2 ∷ []) ≡ false
