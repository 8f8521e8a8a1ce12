-- Worked examples of where the fault of a record is. The right-hand sides are worked out by hand.
use Rattle.std.specs.Prelude.{ℕ, ◌≡◌, List, [], ◌∷◌, Err, codes}
use Rattle.nms_quote.specs.Roster.{Listing}
use Rattle.nms_quote.specs.declared.feed.Feed.TheVariants as feed
use Rattle.nms_lines.specs.Faults.{at, of_record}
use Rattle.nms_lines.specs.Layout.{Record}
use Rattle.nms_lines.specs.Lines.{placed_reading}
use Rattle.nms_lines.specs.declared.line.Reading.TheVariants as source
use Rattle.nms_lines.specs.declared.line_fault.LineFault.TheVariants as fault

-- one participant, one symbol
abbrev pub roster : Listing
roster = record { parts = (codes "N", feed.A) ∷ []; syms = (codes "ABC", 100) ∷ [] }

-- a quotation at N with these two sides, and an order with this side and this flag
abbrev pub quote : Record → Record
quote sides = codes "Q" ∷ codes "N" ∷ codes "ABC" ∷ codes "A" ∷ sides

abbrev pub order : List ℕ → List ℕ → Record
order side flag = codes "O" ∷ codes "0" ∷ side ∷ codes "ABC" ∷ codes "100" ∷ codes "10" ∷ flag ∷ []

pub record PlacesHold : Type 0 where
  -- the offer's price is wrong, and the bid lacks its shares: L6 comes before L8
  pub price : placed_reading roster source.Changes (quote (codes "10" ∷ [] ∷ codes "x" ∷ codes "1" ∷ [])) ≡ Err (at fault.BadPrice 6)
  pub half : placed_reading roster source.Changes (quote (codes "10" ∷ [] ∷ codes "11" ∷ codes "1" ∷ [])) ≡ Err (at fault.HalfSide 5)
  -- a side and a flag have one fault: the side's place comes first
  pub flag : placed_reading roster (source.Script 1) (order (codes "B") (codes "X")) ≡ Err (at fault.BadState 6)
  pub side : placed_reading roster (source.Script 1) (order (codes "Z") (codes "X")) ≡ Err (at fault.BadState 2)
  -- a round lot of another feed than the first is a fault of its kind
  pub lot : placed_reading roster (source.FromFeed feed.B) (codes "R" ∷ codes "ABC" ∷ codes "100" ∷ []) ≡ Err (at fault.WrongFeed 0)
  -- too few fields are a fault of the record
  pub count : placed_reading roster source.Changes (codes "S" ∷ codes "N" ∷ []) ≡ Err (of_record fault.FieldCount)
