-- The legs of a plan go to participants of the roster.
use Rattle.std.proofs.Common.{ℕ, ◌≡◌, ◌<◌, List, get_or, subst}
use Rattle.std.specs.Prelude.{All, Any}
use Rattle.nms_quote.specs.declared.plan.Leg.{Leg}
use Rattle.nms_quote.specs.declared.side_quote.Side.{Side}
use Rattle.nms_board.specs.View.{Seen, rows_on}
use Rattle.nms_board.specs.declared.row.Row.{Row}

-- a leg goes to one of the first participants, if the rows are of them
leg_part : (parts : ℕ) (leg : Leg) (rows : List Row) → Any (λ (row : Row). (row.part ≡ leg.part) × (row.price ≡ leg.price)) rows
    → All (λ (row : Row). row.part < parts) rows → leg.part < parts
leg_part parts leg rows found all =
    subst (λ (part : ℕ). part < parts) found.4.0 (subst (λ (row : Row). row.part < parts) found.3 (all found.0 found.1 found.2))

-- and so does each leg of a plan
pub legs_parts : (parts : ℕ) (side : Side) (seen : Seen) (legs : List Leg)
    → All (λ (leg : Leg). Any (λ (row : Row). (row.part ≡ leg.part) × (row.price ≡ leg.price)) (rows_on side seen)) legs
    → ((side : Side) → All (λ (row : Row). row.part < parts) (rows_on side seen)) → All (λ (leg : Leg). leg.part < parts) legs
legs_parts parts side seen legs found all i d below = leg_part parts (get_or legs i d) (rows_on side seen) (found i d below) (all side)
