-- Worked examples of what is found and written of executions. The right-hand sides are worked out by hand.
use Rattle.std.specs.Prelude.{ℕ, ◌≡◌, true, false, [], ◌∷◌, codes, map, neg_ℤ, pos, Some, None}
use Rattle.nms_quote.specs.Members.{nobody}
use Rattle.nms_quote.specs.Tape.{Tape}
use Rattle.nms_quote.specs.declared.change.Change.TheVariants as change
use Rattle.nms_quote.specs.declared.side_quote.QState.TheVariants.{Automated}
use Rattle.nms_quote.specs.declared.side_quote.Side.TheVariants.{Bid}
use Rattle.nms_show.specs.declared.ending.Ending.TheVariants as ending
use Rattle.nms_trades.specs.Answers.{in_order, number_of}
use Rattle.nms_trades.specs.Columns.{clock_text, worst_by}
use Rattle.nms_trades.specs.Day.{judged_among, of_day}
use Rattle.nms_trades.specs.Files.{ending_of}
use Rattle.nms_trades.specs.Lines.{causes_text}
use Rattle.nms_trades.specs.Quality.{quality_at, quality_between, size_class}
use Rattle.nms_trades.specs.Quoted.{is_unquoted}
use Rattle.nms_trades.specs.Stretch.{is_own}
use Rattle.nms_trades.specs.Sums.{Marked, sums_in}
use Rattle.nms_trades.specs.declared.claims.Claims.{Claims}
use Rattle.nms_trades.specs.declared.execution.Deal.TheVariants.{Bought, Sold}
use Rattle.nms_trades.specs.declared.execution.Execution.{Execution}
use Rattle.nms_trades.specs.declared.execution_file.Refusal.{Refusal}
use Rattle.nms_trades.specs.declared.quality.Place.TheVariants as place
use Rattle.nms_trades.specs.declared.said.Line.{Line}
use Rattle.nms_trades.specs.declared.said.Said.TheVariants as said
use Rattle.nms_trades.specs.declared.stretch.Stretch.{Stretch}
use Rattle.nms_trades.specs.declared.trade_fault.TradeFault.TheVariants as fault

-- no claim
abbrev pub claims_nothing : Claims
claims_nothing = record {
  self_help = nobody;
  not_regular = false;
  single_priced = false;
  sweep = false;
  swept = false;
  benchmark = false;
  stopped = false;
  contingent = false;
  exempt = false;
  outside_hours = false;
  out_of_sequence = false;
}

-- a sweep order is claimed, and self-help against participant 1
abbrev pub claims_some : Claims
claims_some = record claims_nothing { self_help = 2; sweep = true }

-- a bid of 10.05 dollars for 200 shares, which flickered
abbrev pub first_bid : Marked
first_bid = (record { price = 100500; receipt = 7; size = 200; part = 0; protected = true }, true)

-- a bid of 10.04 dollars for 300 shares, which did not
abbrev pub second_bid : Marked
second_bid = (record { price = 100400; receipt = 9; size = 300; part = 1; protected = true }, false)

-- sold at 10.03 dollars
abbrev pub sold : Execution → Claims → Execution
sold execution claims = record execution { millionths = 10030000; claims = claims }

-- the record of a number is refused
abbrev pub refused_as : ℕ → Refusal
refused_as number = record { number = number; fault = fault.BadPrice }

-- an execution of that record
abbrev pub numbered : Execution → ℕ → Execution
numbered execution number = record execution { number = number }

-- in symbol 1 participant 0 sets its state, quotes without prices and withdraws; no other symbol is quoted
abbrev pub quoted_once : Tape
quoted_once = change.State 0 1 Automated ∷ change.Quote 0 1 Automated None None ∷ change.Withdraw 0 ∷ []

-- a shard from a change at 5 on, up to one at 9
abbrev pub five_to_nine : Stretch
five_to_nine = record { from = Some 5; until = Some 9 }

pub record ExamplesHold : Type 0 where
  pub a_state_is_no_quotation : is_unquoted quoted_once 1 1 ≡ true
  pub one_without_prices_is : is_unquoted quoted_once 1 2 ≡ false
  pub a_withdrawal_is_known : is_unquoted quoted_once 1 3 ≡ false
  pub another_symbol_is_not_quoted : is_unquoted quoted_once 0 3 ≡ true
  -- the change at a cut is in force at its own time, and before it if the changes of that time are left out
  pub a_shard_begins_at_its_cut : is_own false five_to_nine 5 ≡ true
  pub it_ends_before_the_next : is_own false five_to_nine 9 ≡ false
  pub without_its_own_time_it_begins_later : is_own true five_to_nine 5 ≡ false
  pub and_ends_later : is_own true five_to_nine 9 ≡ true
  -- of three shards the first does not have the symbol, the second judges the execution, and the third leaves it to another
  pub the_second_decides : (line : Line) → of_day (said.Unknown ∷ said.Here line ∷ said.Elsewhere ∷ []) ≡ Some (said.Here line)
  pub one_judges : (line : Line) → judged_among (said.Unknown ∷ said.Here line ∷ said.Elsewhere ∷ []) ≡ 1
  -- a shard that is there twice, and one that is absent
  pub two_may_not : (line other : Line) → of_day (said.Here line ∷ said.Unknown ∷ said.Here other ∷ []) ≡ None
  pub no_one_does : of_day (said.Elsewhere ∷ said.Unknown ∷ []) ≡ Some said.Elsewhere
  -- the shard of its symbol refuses a record, and no shard has the symbol
  pub one_refuses : of_day (said.Unknown ∷ said.Refused fault.BadPrice ∷ said.Unknown ∷ []) ≡ Some (said.Refused fault.BadPrice)
  pub none_has_the_symbol : of_day (said.Unknown ∷ said.Unknown ∷ []) ≡ Some said.Unknown
  -- 200 shares lose 0.02 dollar each, and the 200 that are left 0.01: 6 dollars
  pub both_bids : (execution : Execution)
      → sums_in (sold execution claims_nothing) 400 (first_bid ∷ second_bid ∷ [])
      ≡ record { count = 2; worst = 20000; shares = 400; dollars = pos 6000000; helped = false; flickers = 1 }
  -- all 500 shares that are displayed
  pub many_shares : (execution : Execution)
      → sums_in (sold execution claims_nothing) 600 (first_bid ∷ second_bid ∷ [])
      ≡ record { count = 2; worst = 20000; shares = 500; dollars = pos 7000000; helped = false; flickers = 1 }
  -- self-help takes the second bid out
  pub one_is_helped : (execution : Execution)
      → sums_in (sold execution claims_some) 400 (first_bid ∷ second_bid ∷ [])
      ≡ record { count = 1; worst = 20000; shares = 200; dollars = pos 4000000; helped = true; flickers = 1 }
  pub no_bids : (execution : Execution)
      → sums_in (sold execution claims_nothing) 400 [] ≡ record {
        count = 0;
        worst = 0;
        shares = 0;
        dollars = pos 0;
        helped = false;
        flickers = 0;
      }
  pub no_cause : causes_text claims_nothing false false false ≡ codes "NONE"
  pub some_causes : causes_text claims_some true true false ≡ codes "SELFHELP-CLAIMED+CROSSED+ISO-CLAIMED"
  -- records 2, 4 and 5 of five are refused
  pub five_records : (execution : Execution)
      → map number_of (in_order [] 0 (numbered execution 1 ∷ numbered execution 3 ∷ []) (refused_as 2 ∷ refused_as 4 ∷ refused_as 5 ∷ []))
      ≡ 1 ∷ 2 ∷ 3 ∷ 4 ∷ 5 ∷ []
  -- a call that refuses no record, and one that refuses two
  pub none_refused : ending_of [] ≡ ending.Done
  pub two_refused : ending_of (refused_as 2 ∷ refused_as 4 ∷ []) ≡ ending.Refused
  pub a_time : clock_text 93000000000001 ≡ codes "09:30:00.000000001"
  -- the first bid is worst passed; if self-help takes the only one out, none is
  pub the_first_is_worst : (execution : Execution)
      → worst_by (sold execution claims_nothing) 20000 ((Bid, first_bid.0) ∷ (Bid, second_bid.0) ∷ []) ≡ Some 0
  pub a_helped_one_is_not : (execution : Execution) → worst_by (sold execution claims_some) 10000 ((Bid, second_bid.0) ∷ []) ≡ None
  -- a bid of 10.00 dollars and an offer of 10.02, whose midpoint is 10.01: bought at 10.015
  pub bought_between : quality_at (Some Bought) 10000000 10020000 10015000 ≡ record {
    quoted = pos 20000000;
    effective = pos 10000000;
    place = place.Improved;
    improvement = Some (pos 5000000);
  }
  -- at 10.02
  pub bought_at_the_offer : quality_at (Some Bought) 10000000 10020000 10020000 ≡ record {
    quoted = pos 20000000;
    effective = pos 20000000;
    place = place.At;
    improvement = Some (pos 0);
  }
  -- at 10.03
  pub bought_outside : quality_at (Some Bought) 10000000 10020000 10030000 ≡ record {
    quoted = pos 20000000;
    effective = pos 40000000;
    place = place.Outside;
    improvement = Some (pos 0);
  }
  -- sold at the midpoint, and at 10.03
  pub sold_at_the_midpoint : quality_at (Some Sold) 10000000 10020000 10010000 ≡ record {
    quoted = pos 20000000;
    effective = pos 0;
    place = place.Improved;
    improvement = Some (pos 10000000);
  }
  pub sold_above_the_offer : quality_at (Some Sold) 10000000 10020000 10030000 ≡ record {
    quoted = pos 20000000;
    effective = neg_ℤ (pos 40000000);
    place = place.Improved;
    improvement = Some (pos 30000000);
  }
  -- the side is not known: at 10.005, at the bid, and at 10.03
  pub unknown_between : quality_at None 10000000 10020000 10005000 ≡ record {
    quoted = pos 20000000;
    effective = pos 10000000;
    place = place.Inside;
    improvement = None;
  }
  pub unknown_at_the_bid : quality_at None 10000000 10020000 10000000 ≡ record {
    quoted = pos 20000000;
    effective = pos 20000000;
    place = place.AtBid;
    improvement = None;
  }
  pub unknown_outside : quality_at None 10000000 10020000 10030000 ≡ record {
    quoted = pos 20000000;
    effective = pos 40000000;
    place = place.Outside;
    improvement = None;
  }
  -- locked at 10.02
  pub unknown_in_a_locked_market : quality_at None 10020000 10020000 10020000 ≡ record {
    quoted = pos 0;
    effective = pos 0;
    place = place.At;
    improvement = None;
  }
  -- crossed: a bid of 10.04 above an offer of 10.02
  pub unknown_in_a_crossed_market : quality_at None 10040000 10020000 10020000 ≡ record {
    quoted = neg_ℤ (pos 20000000);
    effective = pos 20000000;
    place = place.Crossed;
    improvement = None;
  }
  pub bought_in_a_crossed_market : quality_at (Some Bought) 10040000 10020000 10020000 ≡ record {
    quoted = neg_ℤ (pos 20000000);
    effective = neg_ℤ (pos 20000000);
    place = place.At;
    improvement = Some (pos 0);
  }
  pub no_offer : (execution : Execution) → quality_between execution (Some first_bid.0) None ≡ None
  pub sizes : map size_class (1 ∷ 99 ∷ 100 ∷ 499 ∷ 500 ∷ 1999 ∷ 2000 ∷ 4999 ∷ 5000 ∷ 9999 ∷ 10000 ∷ [])
      ≡ 0 ∷ 0 ∷ 1 ∷ 1 ∷ 2 ∷ 2 ∷ 3 ∷ 3 ∷ 4 ∷ 4 ∷ 5 ∷ []
