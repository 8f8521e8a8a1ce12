-- The quotations of a symbol (17 CFR 242.600, "bid or offer", "automated quotation", "manual quotation", "protected bid
-- or protected offer"; a halted participant has none: this product's own rule).
use Rattle.std.specs.Prelude.{ℕ, ◌==◌, Bool, true, false, List, Option, Some, None, if◌then◌else◌}
use Rattle.std.specs.List.{filter_map, range_with_len}
use Rattle.nms_units.specs.Lot.{displayed_size}
use Rattle.nms_quote.specs.Content.{Content}
use Rattle.nms_quote.specs.Roster.{Sizes}
use Rattle.nms_quote.specs.Tape.{Tape}
use Rattle.nms_quote.specs.declared.side_quote.Side.{Side}
use Rattle.nms_quote.specs.declared.side_quote.QState.{QState}
use Rattle.nms_quote.specs.declared.side_quote.QState.TheVariants.{Automated, Manual, Halted}
use Rattle.nms_board.specs.History.{content_at, lot_at, state_at, receipt_of}
use Rattle.nms_board.specs.declared.row.Row.{Row}

abbrev pub is_halted : Option QState → Bool
is_halted None = false
is_halted (Some Automated) = false
is_halted (Some Manual) = false
is_halted (Some Halted) = true

-- an automated quotation is protected
abbrev pub is_automated : Option QState → Bool
is_automated None = false
is_automated (Some Automated) = true
is_automated (Some Manual) = false
is_automated (Some Halted) = false

abbrev pub quotation : ℕ → ℕ → Option QState → ℕ → Option Content → Option Row
quotation lot part state receipt None = None
quotation lot part state receipt (Some content) =
    if is_halted state then None
    else (if displayed_size lot content.shares == 0 then None
    else Some (record {
      part = part;
      price = content.price;
      size = displayed_size lot content.shares;
      receipt = receipt;
      protected = is_automated state;
    }))

-- the participant's quotation on a side of the symbol: it quotes, at least one whole round lot shows, and it is not
-- halted. The lot is the symbol's present one.
abbrev pub quotation_of : Sizes → Tape → ℕ → Side → ℕ → Option Row
quotation_of sizes tape sym side part =
    quotation (lot_at sizes tape sym) part (state_at part sym tape) (receipt_of part sym side tape) (content_at part sym side tape)

-- the quotations on a side of the symbol, by participant place
abbrev pub quotations : Sizes → Tape → ℕ → Side → List Row
quotations sizes tape sym side = filter_map (quotation_of sizes tape sym side) (range_with_len 0 sizes.parts)
