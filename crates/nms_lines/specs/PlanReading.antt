-- The plan and the certificate that records are, if they have exactly the layout: one record of the plan, at most 32
-- legs, at most 32 cuts, an end, and nothing after it. This product's own rule.
use Rattle.std.specs.Prelude.{Bool, true, false, ◌==◌, ◌&&◌, List, [], ◌∷◌, is_ok, length, nat_le, Option, Some, None, option_map, if◌then◌else◌}
use Rattle.nms_quote.specs.Roster.{Listing}
use Rattle.nms_quote.specs.declared.plan.Leg.{Leg}
use Rattle.nms_quote.specs.declared.plan.Plan.{Plan}
use Rattle.nms_quote.specs.declared.certificate.Cut.{Cut}
use Rattle.nms_lines.specs.Layout.{Record}
use Rattle.nms_lines.specs.PlanRecords.{Head, cut_in, end_reading, head_in, leg_in}

infixl 10 ◌>>=◌
-- what is read of what is there
abbrev pub ◌>>=◌ : {A B : Type 0} → Option A → (A → Option B) → Option B
(Some x) >>= f = f x
None >>= f = None

-- something if it passes
abbrev pub check : Bool → Option (Unit {0})
check true = Some tt
check false = None

-- END, and nothing after it
abbrev pub is_end : Record → List Record → Bool
is_end fields behind = is_ok (end_reading fields) && (length behind == 0)

-- one more before those
abbrev pub with_first : {A : Type 0} → A → Option (List A) → Option (List A)
with_first one more = option_map (λ list. one ∷ list) more

-- the cuts of these records, and the end
unfoldable pub cuts_in : List Record → Option (List Cut)
cuts_in [] = None
cuts_in (fields ∷ records) = if is_end fields records then Some [] else (do
  cut ← cut_in fields
  with_first cut (cuts_in records))

-- a leg, if the record is one, and what follows it
abbrev pub leg_before : Option Leg → List Leg → List Leg
leg_before None more = []
leg_before (Some leg) more = leg ∷ more

-- what comes after it, and all of it if it is not a leg
abbrev pub behind_leg : Option Leg → List Record → List Record → List Record
behind_leg None all more = all
behind_leg (Some leg) all more = more

-- the legs at the beginning of these records
unfoldable pub legs_of : Listing → List Record → List Leg
legs_of roster [] = []
legs_of roster (fields ∷ records) = leg_before (leg_in roster fields) (legs_of roster records)

-- and what comes after them
unfoldable pub behind_legs : Listing → List Record → List Record
behind_legs roster [] = []
behind_legs roster (fields ∷ records) = behind_leg (leg_in roster fields) (fields ∷ records) (behind_legs roster records)

-- what a plan's text says: the plan, its legs and its cuts
pub record Said : Type 0 where
  pub head : Head
  pub legs : List Leg
  pub cuts : List Cut

-- at most 32 of each
abbrev pub is_few : {A : Type 0} → List A → Bool
is_few list = nat_le (length list) 32

-- what the records of a plan's text say
abbrev pub plan_in : Listing → List Record → Option Said
plan_in roster [] = None
plan_in roster (fields ∷ records) = do
  head ← head_in roster fields
  cuts ← cuts_in (behind_legs roster records)
  few ← check (is_few (legs_of roster records) && is_few cuts)
  Some (record { head = head; legs = legs_of roster records; cuts = cuts })

-- what a plan and its cuts say
abbrev pub said_by : Plan → List Cut → Said
said_by plan cuts = record {
  head = record { version = plan.version; order = plan.order; filled = plan.filled; cost = plan.cost };
  legs = plan.legs.items;
  cuts = cuts;
}
