-- Worked examples of the definitions: three participants N, P and Z, one symbol that opens with round lots of 100. The
-- right-hand side gives the opening changes by hand.
use Rattle.std.specs.Prelude.{ℕ, ◌≡◌, true, false, [], ◌∷◌, ◌++◌, Option, Some, None, fold}
use Rattle.nms_quote.specs.Content.{Content}
use Rattle.nms_quote.specs.Roster.{Sizes}
use Rattle.nms_quote.specs.Tape.{Tape}
use Rattle.nms_quote.specs.declared.side_quote.Side.TheVariants.{Bid, Offer}
use Rattle.nms_quote.specs.declared.side_quote.QState.TheVariants.{Automated, Halted}
use Rattle.nms_quote.specs.declared.change.Change.{Change}
use Rattle.nms_quote.specs.declared.change.Change.TheVariants as change
use Rattle.nms_board.specs.Cells.{Board, after, opening}
use Rattle.nms_board.specs.declared.row.Row.{Row}
use Rattle.nms_opening.specs.Alike.{content_on, is_earlier, shown_in_order, state_in}

abbrev pub three : Sizes
three = record { parts = 3; lots = 100 ∷ [] }

-- their places, and the symbol's
abbrev pub n : ℕ
n = 0

abbrev pub p : ℕ
p = 1

abbrev pub abc : ℕ
abc = 0

-- the board of a tape
abbrev pub board_of : Tape → Board
board_of tape = fold after (opening three) tape

-- a number of shares at a price in 1/10,000 dollar
abbrev pub at : ℕ → ℕ → Option Content
at price shares = Some (record { price = price; shares = shares })

-- an automated quote of both sides
abbrev pub quote : ℕ → Option Content → Option Content → Change
quote part bid offer = change.Quote part abc Automated bid offer

-- N bids, P offers, N offers below P and with less than a round lot, P changes nothing, Z quoted once and withdrew
abbrev pub day : Tape
day =
    quote n (at 99900 300) None ∷ quote p None (at 100100 200) ∷ quote 2 (at 99900 300) None ∷ quote n (at 99900 300) (at 100000 60)
    ∷ quote p None (at 100100 200) ∷ change.Withdraw 2 ∷ []

-- its opening in three changes: N's bid, P's offer, N's bid again with its offer
abbrev pub opened : Tape
opened = quote n (at 99900 300) None ∷ quote p None (at 100100 200) ∷ quote n (at 99900 300) (at 100000 60) ∷ []

-- P and then N, in another lot; N halts
abbrev pub halted_day : Tape
halted_day =
    change.Lot abc 40 ∷ quote p (at 99900 80) (at 100100 80) ∷ quote n (at 99900 90) (at 100000 90) ∷ change.Lot abc 10
    ∷ change.State n abc Halted ∷ []

abbrev pub halted_opened : Tape
halted_opened =
    change.Lot abc 10 ∷ quote p (at 99900 80) (at 100100 80) ∷ change.Quote n abc Halted (at 99900 90) (at 100000 90) ∷ []

-- a row without the number of its receipt
abbrev pub row : ℕ → ℕ → ℕ → Row
row part price size = record { part = part; price = price; size = size; receipt = 0; protected = true }

-- N and P at one price and size: the receipts decide
abbrev pub tied : Tape
tied = quote p (at 99900 100) None ∷ quote n (at 99900 100) None ∷ []

abbrev pub tied_other_way : Tape
tied_other_way = quote n (at 99900 100) None ∷ quote p (at 99900 100) None ∷ []

-- what the tapes show
pub record ExamplesHold : Type 0 where
  pub bids_are_shown : shown_in_order (board_of day) abc Bid ≡ row n 99900 300 ∷ []
  pub the_same_bids_open : shown_in_order (board_of opened) abc Bid ≡ row n 99900 300 ∷ []
  pub odd_lots_are_hidden : shown_in_order (board_of day) abc Offer ≡ row p 100100 200 ∷ []
  pub the_same_offers_open : shown_in_order (board_of opened) abc Offer ≡ row p 100100 200 ∷ []
  pub a_hidden_offer_stands : content_on (board_of opened) abc Offer n ≡ content_on (board_of day) abc Offer n
  pub a_bid_came_first : is_earlier (board_of day) abc Bid n Offer p ≡ true
  pub it_comes_first_again : is_earlier (board_of opened) abc Bid n Offer p ≡ true
  pub an_offer_came_last : is_earlier (board_of day) abc Offer n Offer p ≡ false
  pub it_comes_last_again : is_earlier (board_of opened) abc Offer n Offer p ≡ false
  pub a_smaller_lot_shows_both : shown_in_order (board_of (day ++ change.Lot abc 20 ∷ [])) abc Offer
      ≡ row n 100000 60 ∷ row p 100100 200 ∷ []
  pub and_so_it_does_again : shown_in_order (board_of (opened ++ change.Lot abc 20 ∷ [])) abc Offer
      ≡ row n 100000 60 ∷ row p 100100 200 ∷ []
  pub who_halts_is_hidden : shown_in_order (board_of halted_day) abc Bid ≡ row p 99900 80 ∷ []
  pub a_halt_opens_as_one : shown_in_order (board_of halted_opened) abc Bid ≡ row p 99900 80 ∷ []
  pub its_state_is_kept : state_in (board_of halted_opened) abc n ≡ Some Halted
  pub receipts_decide_a_tie : shown_in_order (board_of tied) abc Bid ≡ row p 99900 100 ∷ row n 99900 100 ∷ []
  pub another_order_shows_otherwise : shown_in_order (board_of tied_other_way) abc Bid ≡ row n 99900 100 ∷ row p 99900 100 ∷ []
