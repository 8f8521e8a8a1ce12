-- Laws of the definitions: what the rules say of them. This product's own rule, except the quotations that 17 CFR
-- 242.600 defines.
use Rattle.std.specs.Prelude.{ℕ, ◌≡◌, ◌≢◌, ◌≤◌, All, [], ◌∷◌, ◌++◌, length, Some, None}
use Rattle.nms_quote.specs.Roster.{Sizes}
use Rattle.nms_quote.specs.Tape.{Tape, participant_of, version}
use Rattle.nms_quote.specs.declared.side_quote.Side.{Side}
use Rattle.nms_quote.specs.declared.side_quote.QState.TheVariants.{Automated, Halted}
use Rattle.nms_quote.specs.declared.change.Change.{Change}
use Rattle.nms_quote.specs.declared.change.Change.TheVariants as change
use Rattle.nms_board.specs.History.{content_at, lot_at, receipt_of, state_at}
use Rattle.nms_board.specs.Quotation.{quotation, quotation_of, quotations}
use Rattle.nms_board.specs.declared.row.Row.{Row}

-- from version n on, the side has the content that it has at the end
abbrev pub StaysFrom : ℕ → ℕ → Side → Tape → ℕ → Type 0
StaysFrom part sym side tape n =
    (k : ℕ) → n ≤ k → k ≤ length tape → content_at part sym side (version k tape) ≡ content_at part sym side tape

-- n is the least version from which on the side's content stays
pub record IsReceipt (part sym : ℕ) (side : Side) (tape : Tape) (n : ℕ) : Type 0 where
  pub within : n ≤ length tape
  pub stays : StaysFrom part sym side tape n
  pub least : (m : ℕ) → StaysFrom part sym side tape m → n ≤ m

-- the change leaves the side's content and receipt
pub record KeepsSide (part sym : ℕ) (side : Side) (tape : Tape) (change : Change) : Type 0 where
  pub content : content_at part sym side (tape ++ change ∷ []) ≡ content_at part sym side tape
  pub receipt : receipt_of part sym side (tape ++ change ∷ []) ≡ receipt_of part sym side tape

-- the participant halts the symbol, others send changes, and it lifts the halt
abbrev pub lifted_after : ℕ → ℕ → Tape → Tape → Tape
lifted_after part sym tape others =
    tape ++ change.State part sym Halted ∷ [] ++ others ++ change.State part sym Automated ∷ []

-- a halt hides the participant's quotations in the symbol and alters no side; after it is lifted, they show with the
-- receipts that they had, in the lot of that time
pub record HidesAndKeeps (sizes : Sizes) (part sym : ℕ) (tape : Tape) : Type 0 where
  pub keeps : (p s : ℕ) (side : Side) → KeepsSide p s side tape (change.State part sym Halted)
  pub hides : (side : Side) → quotation_of sizes (tape ++ change.State part sym Halted ∷ []) sym side part ≡ None
  pub shows_again : (side : Side) (others : Tape) → All (λ change. participant_of change ≢ Some part) others
      → quotation_of sizes (lifted_after part sym tape others) sym side part
      ≡ quotation (lot_at sizes (lifted_after part sym tape others) sym) part (Some Automated) (receipt_of part sym side tape)
      (content_at part sym side tape)

-- a symbol of the roster gets another round lot: no side is altered, and each row that appears or stays has the receipt
-- that it had. Other symbols show the same as before
pub record KeepsReceipts (sizes : Sizes) (sym lot : ℕ) (tape : Tape) : Type 0 where
  pub keeps : (part s : ℕ) (side : Side) → KeepsSide part s side tape (change.Lot sym lot)
  pub ranks : (part : ℕ) (side : Side) → quotation_of sizes (tape ++ change.Lot sym lot ∷ []) sym side part
      ≡ quotation lot part (state_at part sym tape) (receipt_of part sym side tape) (content_at part sym side tape)
  pub comes : (part : ℕ) (side : Side) (row : Row) → quotation_of sizes (tape ++ change.Lot sym lot ∷ []) sym side part ≡ Some row
      → row.receipt ≡ receipt_of part sym side tape
  pub stays : (part : ℕ) (side : Side) (row was : Row) → quotation_of sizes (tape ++ change.Lot sym lot ∷ []) sym side part ≡ Some row
      → quotation_of sizes tape sym side part ≡ Some was → row.receipt ≡ was.receipt
  pub elsewhere : (s : ℕ) (side : Side) → sym ≢ s → quotations sizes (tape ++ change.Lot sym lot ∷ []) s side ≡ quotations sizes tape s side
