-- The records of a plan's text, one by one, field by field: what each says, or the first place where it is wrong. This
-- product's own rule.
use Rattle.std.specs.Prelude.{ℕ, ℤ, Bool, not, ◌==◌, ◌||◌, List, [], codes, length, Option, Some, None, Result, Ok, Err, option_map}
use Rattle.std.specs.Prelude.{if◌then◌else◌}
use Rattle.std.specs.Option.{ok_or}
use Rattle.std.specs.Result.{result_err, result_ok}
use Rattle.nms_units.specs.Digits.{number_in}
use Rattle.nms_units.specs.Price.{price_number}
use Rattle.nms_units.specs.Money.{money_number}
use Rattle.nms_quote.specs.Roster.{Listing, place_in}
use Rattle.nms_quote.specs.Terms.{Terms}
use Rattle.nms_quote.specs.declared.plan.Leg.{Leg}
use Rattle.nms_quote.specs.declared.certificate.Cut.{Cut}
use Rattle.nms_quote.specs.declared.certificate.CutKind.{CutKind}
use Rattle.nms_quote.specs.declared.certificate.CutKind.TheVariants as kind
use Rattle.nms_lines.specs.Faults.{◌>>=◌, refuse_if}
use Rattle.nms_lines.specs.Fields.{flag_named, side_named}
use Rattle.nms_lines.specs.Layout.{Record, field, is_text}
use Rattle.nms_lines.specs.Named.{named_at}
use Rattle.nms_lines.specs.Numbers.{above_zero, shares_number}
use Rattle.nms_lines.specs.declared.line_fault.FaultPlace.{FaultPlace}
use Rattle.nms_lines.specs.declared.line_fault.FaultPlace.TheVariants as place
use Rattle.nms_lines.specs.declared.plan_record.PlanRecord.{PlanRecord}
use Rattle.nms_lines.specs.declared.plan_record.PlanRecord.TheVariants as record_of

-- a record that begins with that word, and then has the right number of fields
abbrev pub begun : List ℕ → Bool → Record → Result (Unit {0}) FaultPlace
begun word counted fields = do
  named ← refuse_if (not (is_text word (field fields 0))) (place.Field 0)
  refuse_if (not counted) place.Record

-- what the field after n others says, or its place
abbrev pub said_at : {A : Type 0} → Option A → ℕ → Result A FaultPlace
said_at said before = ok_or said (place.Field before)

-- what the record of a plan says
pub record Head : Type 0 where
  pub version : ℕ
  pub order : Terms
  pub filled : ℕ
  pub cost : ℤ

-- PLAN,version,side,sym,shares,limit,flag,filled,cost, then the participants named: a version of 1 to 8 digits, an order
-- of at least one share
abbrev pub head_reading : Listing → Record → Result Head FaultPlace
head_reading roster fields = do
  plan ← begun (codes "PLAN") (length fields == 9 || length fields == 10) fields
  version ← said_at (number_in 8 (field fields 1)) 1
  side ← said_at (side_named (field fields 2)) 2
  sym ← said_at (place_in roster.syms (field fields 3)) 3
  shares ← said_at (above_zero (shares_number (field fields 4))) 4
  limit ← said_at (above_zero (price_number (field fields 5))) 5
  manual ← said_at (flag_named (field fields 6)) 6
  filled ← said_at (shares_number (field fields 7)) 7
  cost ← said_at (money_number (field fields 8)) 8
  self_help ← said_at (named_at 9 roster fields) 9
  Ok (record {
    version = version;
    order = record { side = side; sym = sym; shares = shares; limit = limit; manual = manual; self_help = self_help };
    filled = filled;
    cost = cost;
  })

-- LEG,part,price,shares
abbrev pub leg_reading : Listing → Record → Result Leg FaultPlace
leg_reading roster fields = do
  leg ← begun (codes "LEG") (length fields == 4) fields
  part ← said_at (place_in roster.parts (field fields 1)) 1
  price ← said_at (above_zero (price_number (field fields 2))) 2
  shares ← said_at (shares_number (field fields 3)) 3
  Ok (record { part = part; price = price; shares = shares })

-- what a cut says with an empty field after it
abbrev pub without_value : List ℕ → CutKind → Option CutKind
without_value value said = if is_text [] value then Some said else None

-- what a cut says: a word with an empty field after it, or one with money
abbrev pub kind_said : List ℕ → List ℕ → Result CutKind FaultPlace
kind_said word value =
    if is_text (codes "TOOMUCH") word then said_at (without_value value kind.TooMuch) 3
    else (if is_text (codes "TOOLITTLE") word then said_at (without_value value kind.TooLittle) 3
    else (if is_text (codes "MARGINAL") word then said_at (option_map kind.Marginal (money_number value)) 3 else Err (place.Field 2)))

-- CUT,price,kind,value: the word decides how the value is judged
abbrev pub cut_reading : Record → Result Cut FaultPlace
cut_reading fields = do
  cut ← begun (codes "CUT") (length fields == 4) fields
  price ← said_at (above_zero (price_number (field fields 1))) 1
  said ← kind_said (field fields 2) (field fields 3)
  Ok (record { price = price; kind = said })

-- END
abbrev pub end_reading : Record → Result (Unit {0}) FaultPlace
end_reading fields = begun (codes "END") (length fields == 1) fields

-- where a record is wrong, if it is not one of those
abbrev pub wrong_as : PlanRecord → Listing → Record → Option FaultPlace
wrong_as record_of.Plan roster fields = result_err (head_reading roster fields)
wrong_as record_of.Leg roster fields = result_err (leg_reading roster fields)
wrong_as record_of.Cut roster fields = result_err (cut_reading fields)
wrong_as record_of.End roster fields = result_err (end_reading fields)

-- what it says, if it is one
abbrev pub head_in : Listing → Record → Option Head
head_in roster fields = result_ok (head_reading roster fields)

abbrev pub leg_in : Listing → Record → Option Leg
leg_in roster fields = result_ok (leg_reading roster fields)

abbrev pub cut_in : Record → Option Cut
cut_in fields = result_ok (cut_reading fields)
