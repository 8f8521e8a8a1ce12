-- How the cuts of a certificate are found right in one walk over them and over the usable rows, which come best price
-- first. This product's own rule.
use Rattle.std.specs.Prelude.{ℕ, ℤ, ◌+◌, ◌==◌, ◌&&◌, Bool, true, false, not, nat_le, nat_lt, List, [], ◌∷◌, if◌then◌else◌}
use Rattle.nms_quote.specs.declared.certificate.Cut.{Cut}
use Rattle.nms_quote.specs.declared.certificate.CutKind.{CutKind}
use Rattle.nms_quote.specs.declared.certificate.CutKind.TheVariants.{TooMuch, TooLittle, Marginal}
use Rattle.nms_quote.specs.declared.order.OrderSide.{OrderSide}
use Rattle.nms_rules.specs.Usable.{Usable, rank_of}
use Rattle.nms_cert.specs.Doubts.{fails_bound, is_out_of_range}
use Rattle.nms_cert.specs.declared.walking.Passed.{Passed}

-- no row was passed
abbrev pub none_passed : Passed
none_passed = record { shown = 0; swept = 0 }

-- a protected row has to be swept before a worse price
abbrev pub protected_size : Usable → ℕ
protected_size row = if row.protected then row.size else 0

-- one more row was
abbrev pub with_row : Passed → Usable → Passed
with_row passed row = record { shown = passed.shown + row.size; swept = passed.swept + protected_size row }

-- whether the first of the rows is at the price
abbrev pub starts_at : ℕ → List Usable → Bool
starts_at price [] = false
starts_at price (row ∷ rows) = row.price == price

-- the rows at the price ahead of any other were passed too
unfoldable pub past : ℕ → Passed → List Usable → Passed
past price passed [] = passed
past price passed (row ∷ rows) = if row.price == price then past price (with_row passed row) rows else passed

-- the rows after those
unfoldable pub behind : ℕ → List Usable → List Usable
behind price [] = []
behind price (row ∷ rows) = if row.price == price then behind price rows else row ∷ rows

-- a cut is of a kind that the sums allow: what must be swept at its price, and what the rows at its price or better show
abbrev pub is_right_kind : ℕ → CutKind → ℕ → ℕ → Bool
is_right_kind most TooMuch swept shown = nat_lt most swept
is_right_kind most TooLittle swept shown = nat_lt shown most
is_right_kind most (Marginal marginal) swept shown = nat_le swept most

-- its marginal is in its range, and bounds the cost
abbrev pub is_bounded : List Usable → ℕ → ℤ → ℤ → CutKind → Bool
is_bounded rows most cost cutoff kind = not (is_out_of_range kind) && not (fails_bound rows most cost cutoff kind)

-- no row is left
abbrev pub is_done : List Usable → Bool
is_done [] = true
is_done (row ∷ rows) = false

-- the rows to come have exactly the prices of the cuts to come, and each of these cuts is right
unfoldable pub are_walked : OrderSide → List Usable → ℕ → ℤ → Passed → List Usable → List Cut → Bool
are_walked side rows most cost passed later [] = is_done later
are_walked side rows most cost passed later (cut ∷ cuts) =
    starts_at cut.price later && is_right_kind most cut.kind passed.swept (past cut.price passed later).shown
    && is_bounded rows most cost (rank_of side cut.price) cut.kind
    && are_walked side rows most cost (past cut.price passed later) (behind cut.price later) cuts
