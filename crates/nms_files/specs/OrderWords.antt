-- The order that the words of `plan` say: that of a script's record with these fields. This product's own rule.
use Rattle.std.specs.Prelude.{ℕ, Bool, true, false, List, [], ◌∷◌, Option, Some, None, Result, Ok, Err, codes}
use Rattle.nms_units.specs.Price.{price_number}
use Rattle.nms_quote.specs.Members.{nobody}
use Rattle.nms_quote.specs.Roster.{Listing, place_in}
use Rattle.nms_quote.specs.Terms.{Terms}
use Rattle.nms_lines.specs.Fields.{side_named}
use Rattle.nms_lines.specs.Layout.{Record}
use Rattle.nms_lines.specs.Lines.{reading}
use Rattle.nms_lines.specs.Named.{named_in}
use Rattle.nms_lines.specs.Numbers.{above_zero, shares_number}
use Rattle.nms_lines.specs.PlanReading.{◌>>=◌}
use Rattle.nms_lines.specs.declared.line.Line.{Line}
use Rattle.nms_lines.specs.declared.line.Line.TheVariants as line
use Rattle.nms_lines.specs.declared.line.Reading.TheVariants as source
use Rattle.nms_lines.specs.declared.line_fault.LineFault.{LineFault}

-- the fields of an order after its limit: its flag, and the names that it has
abbrev pub last_fields : Bool → Option (List ℕ) → Record
last_fields true None = codes "M" ∷ []
last_fields false None = []
last_fields true (Some names) = codes "M" ∷ names ∷ []
last_fields false (Some names) = [] ∷ names ∷ []

-- the participants that names name; none if there are no names
abbrev pub named_by : Listing → Option (List ℕ) → Option ℕ
named_by roster None = Some nobody
named_by roster (Some names) = named_in roster names

-- the record of desk 0 that has the words as its fields
abbrev pub order_record : List ℕ → List ℕ → List ℕ → List ℕ → Bool → Option (List ℕ) → Record
order_record side sym shares limit manual names = codes "O" ∷ codes "0" ∷ side ∷ sym ∷ shares ∷ limit ∷ last_fields manual names

-- the order of a line that is one
abbrev pub order_said : Line → Option Terms
order_said (line.Change change) = None
order_said line.TakeOne = None
order_said line.TakeAll = None
order_said line.Publish = None
order_said (line.Tell desk) = None
order_said (line.Best desk sym) = None
order_said (line.Through desk sym price) = None
order_said (line.Sweep desk order) = Some order

-- the order of a record that is read as one
abbrev pub order_in : Result Line LineFault → Option Terms
order_in (Ok line) = order_said line
order_in (Err fault) = None

-- the order of words that names those participants
abbrev pub order_with : Listing → List ℕ → List ℕ → List ℕ → List ℕ → Bool → ℕ → Option Terms
order_with roster side sym shares limit manual self_help = do
  sym ← place_in roster.syms sym
  side ← side_named side
  limit ← above_zero (price_number limit)
  shares ← above_zero (shares_number shares)
  Some (record { side = side; sym = sym; shares = shares; limit = limit; manual = manual; self_help = self_help })

-- the order that a script of one desk reads from it, or none
abbrev pub order_asked : Listing → List ℕ → List ℕ → List ℕ → List ℕ → Bool → Option (List ℕ) → Option Terms
order_asked roster side sym shares limit manual names =
    order_in (reading roster (source.Script 1) (order_record side sym shares limit manual names))
