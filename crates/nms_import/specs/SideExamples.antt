-- Worked examples of rows of one side. The right-hand sides are worked out by hand.
use Rattle.std.specs.Prelude.{◌≡◌, ℕ, true, false, Option, Some, None, Ok, Err}
use Rattle.nms_quote.specs.Content.{Content}
use Rattle.nms_quote.specs.declared.change.Change.{Change}
use Rattle.nms_quote.specs.declared.change.Change.TheVariants as change
use Rattle.nms_quote.specs.declared.side_quote.QState.{QState}
use Rattle.nms_quote.specs.declared.side_quote.QState.TheVariants.{Automated, Halted, Manual}
use Rattle.nms_quote.specs.declared.side_quote.Side.{Side}
use Rattle.nms_quote.specs.declared.side_quote.Side.TheVariants.{Bid, Offer}
use Rattle.nms_import.specs.declared.cause.Cause.TheVariants as cause
use Rattle.nms_import.specs.declared.meanings.Half.TheVariants as half
use Rattle.nms_import.specs.declared.side_rows.OneSide.{OneSide}
use Rattle.nms_import.specs.declared.side_rows.SideRow.{SideRow}
use Rattle.nms_import.specs.declared.side_rows.Sides.{Sides}
use Rattle.nms_import.specs.SideRows.{Kept, kept_after, no_sides, nothing_kept, quote_after, sides_after, step_of}

-- 300 shares at 9.99, 200 at 10.01, and 100 at 10.02
abbrev pub a_bid : Content
a_bid = record { price = 99900; shares = 300 }

abbrev pub an_offer : Content
an_offer = record { price = 100100; shares = 200 }

abbrev pub another_offer : Content
another_offer = record { price = 100200; shares = 100 }

-- a row of the venue 1 in the symbol 2
abbrev pub row_of : Side → QState → Option Content → SideRow
row_of side state content =
    record { time = 93000000000000; part = 1; sym = 2; side = side; state = state; content = content }

-- what that venue quotes in that symbol
abbrev pub quoted : QState → (bid offer : Option Content) → Change
quoted state bid offer = change.Quote 1 2 state bid offer

-- a side in a state
abbrev pub in_state : QState → Content → Option OneSide
in_state state content = Some (record { content = content; state = state })

-- a bid and an offer, both automated; and then with a manual bid
abbrev pub both : Sides
both = record { bid = in_state Automated a_bid; offer = in_state Automated an_offer }

abbrev pub manual_bid : Sides
manual_bid = record { bid = in_state Manual a_bid; offer = None }

-- after a row that halts
abbrev pub after_halt : Sides
after_halt = sides_after both (row_of Bid Halted (Some a_bid))

-- what is kept of all venues after a bid of the venue 1 in the symbol 2
abbrev pub after_bid : Kept
after_bid = kept_after half.Refuse true nothing_kept (row_of Bid Automated (Some a_bid))

-- what the definitions say of them
pub record SideExamplesHold : Type 0 where
  pub the_first_side : quote_after half.Refuse no_sides (row_of Bid Automated (Some a_bid)) ≡ Ok (quoted Automated (Some a_bid) None)
  pub the_other_side_is_kept : quote_after half.Refuse (after_bid 1 2) (row_of Offer Automated (Some an_offer))
      ≡ Ok (quoted Automated (Some a_bid) (Some an_offer))
  pub the_own_side_is_replaced : quote_after half.Refuse both (row_of Offer Automated (Some another_offer))
      ≡ Ok (quoted Automated (Some a_bid) (Some another_offer))
  pub a_side_ends : quote_after half.Refuse both (row_of Bid Automated None) ≡ Ok (quoted Automated None (Some an_offer))
  pub another_venue : after_bid 3 2 ≡ no_sides
  pub another_symbol : after_bid 1 4 ≡ no_sides
  pub one_manual_side_is_refused : quote_after half.Refuse manual_bid (row_of Offer Automated (Some an_offer)) ≡ Err (cause.OneSided Bid)
  pub one_manual_side_makes_both : quote_after half.Manual manual_bid (row_of Offer Automated (Some an_offer))
      ≡ Ok (quoted Manual (Some a_bid) (Some an_offer))
  pub one_manual_side_makes_none : quote_after half.Automated both (row_of Offer Manual (Some an_offer))
      ≡ Ok (quoted Automated (Some a_bid) (Some an_offer))
  pub both_are_manual : quote_after half.Refuse manual_bid (row_of Offer Manual (Some an_offer))
      ≡ Ok (quoted Manual (Some a_bid) (Some an_offer))
  pub the_state_of_what_is_left : quote_after half.Refuse manual_bid (row_of Offer Automated None) ≡ Ok (quoted Manual (Some a_bid) None)
  pub a_halt_is_of_both : quote_after half.Refuse both (row_of Bid Halted (Some a_bid)) ≡ Ok (quoted Halted (Some a_bid) (Some an_offer))
  pub a_halt_without_a_price : quote_after half.Refuse both (row_of Bid Halted None) ≡ Ok (quoted Halted None (Some an_offer))
  pub after_a_halt_one_side : quote_after half.Refuse after_halt (row_of Offer Automated (Some another_offer))
      ≡ Ok (quoted Automated None (Some another_offer))
  pub a_refused_row_withdraws : step_of half.Refuse true manual_bid (row_of Offer Automated (Some an_offer))
      ≡ record { change = Some (quoted Automated None None); sides = no_sides }
  pub or_keeps : step_of half.Refuse false manual_bid (row_of Offer Automated (Some an_offer)) ≡ record { change = None; sides = manual_bid }
