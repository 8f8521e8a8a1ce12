-- The words of an order as the record that has them: its names first, then the rest.
use Rattle.std.proofs.Common.{◌≡◌, ℕ, Bool, true, false, List, Option, Some, None, refl}
use Rattle.std.specs.Prelude.{Result}
use Rattle.std.specs.Option.{ok_or}
use Rattle.nms_units.specs.Price.{price_number}
use Rattle.nms_quote.specs.Roster.{Listing, place_in}
use Rattle.nms_quote.specs.Terms.{Terms}
use Rattle.nms_lines.specs.Faults.{◌>>=◌, unplaced}
use Rattle.nms_lines.specs.Fields.{side_named}
use Rattle.nms_lines.specs.Named.{named_in}
use Rattle.nms_lines.specs.Numbers.{above_zero, shares_number}
use Rattle.nms_lines.specs.PlanReading.{◌>>=◌ as ◌then◌}
use Rattle.nms_lines.specs.declared.line.Line.{Line}
use Rattle.nms_lines.specs.declared.line_fault.LineFault.TheVariants as fault
use Rattle.nms_lines.specs.declared.line_fault.PlacedFault.{PlacedFault}
use Rattle.nms_files.specs.OrderWords.{named_by, order_asked, order_in, order_with}

-- a field is read, and then the rest
field_then : {A : Type 0} (found : Option A) (placed : PlacedFault) (next : A → Result Line PlacedFault) (rest : A → Option Terms)
    → ((x : A) → order_in (unplaced (next x)) ≡ rest x) → order_in (unplaced (ok_or found placed >>= next)) ≡ (found then rest)
field_then None placed next rest each = refl
field_then (Some x) placed next rest each = each x

-- what comes of the names, if there is something
abbrev pub after : Option ℕ → (ℕ → Option Terms) → Option Terms
after names rest = names then rest

-- the names are read first
pub asked : (roster : Listing) (side sym shares limit : List ℕ) (manual : Bool) (names : Option (List ℕ))
    → order_asked roster side sym shares limit manual names
    ≡ after (named_by roster names) (order_with roster side sym shares limit manual)
asked roster side sym shares limit true None =
    field_then (place_in roster.syms sym) _ _ _ (λ place. field_then (side_named side) _ _ _ (λ way.
    field_then (above_zero (price_number limit)) _ _ _ (λ most. field_then (above_zero (shares_number shares)) _ _ _ (λ number. refl))))
asked roster side sym shares limit false None =
    field_then (place_in roster.syms sym) _ _ _ (λ place. field_then (side_named side) _ _ _ (λ way.
    field_then (above_zero (price_number limit)) _ _ _ (λ most. field_then (above_zero (shares_number shares)) _ _ _ (λ number. refl))))
asked roster side sym shares limit true (Some names) = field_then (named_in roster names) _ _ _ (λ set.
    field_then (place_in roster.syms sym) _ _ _ (λ place. field_then (side_named side) _ _ _ (λ way.
    field_then (above_zero (price_number limit)) _ _ _ (λ most. field_then (above_zero (shares_number shares)) _ _ _ (λ number. refl)))))
asked roster side sym shares limit false (Some names) = field_then (named_in roster names) _ _ _ (λ set.
    field_then (place_in roster.syms sym) _ _ _ (λ place. field_then (side_named side) _ _ _ (λ way.
    field_then (above_zero (price_number limit)) _ _ _ (λ most. field_then (above_zero (shares_number shares)) _ _ _ (λ number. refl)))))
