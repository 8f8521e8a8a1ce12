-- The history of an opening, which exists only in proofs: the batches that were published. This product's own rule.
use Rattle.std.specs.Prelude.{ℕ, ◌≡◌, suc, Bool, true, false, List, [], ◌∷◌, ◌++◌, length, if◌then◌else◌}
use Rattle.logbook.specs.Pages.{Book, Cell, Named, Nib, Step, View, nib, may_make, may_write}
use Rattle.nms_quote.specs.declared.change.Change.{Change}
use Rattle.nms_versions.specs.Published.{Batches, NoneEmpty}

-- a cell for each batch, at home; one more, which is not, while a batch is open
abbrev pub cells_of : Batches → Bool → List Cell
cells_of [] is_open = if is_open then (0, false) ∷ [] else []
cells_of (batch ∷ batches) is_open = (0, true) ∷ cells_of batches is_open

-- the history's rule: its first word counts those cells, its second is not used, and no batch is empty
pub record IsKept (words : List Cell) (log : Batches) : Type 0 where
  pub is_open : Bool
  pub words_are : words ≡ (length (cells_of log is_open), true) ∷ (0, true) ∷ cells_of log is_open
  pub none_empty : NoneEmpty log

-- the history's first word
abbrev pub count_of : Book → Named
count_of book = record { tracked = true; key = 0; book = book }

-- the key of the cell after n batches
abbrev pub key_of : ℕ → ℕ
key_of batches = suc (suc batches)

-- a batch was opened: nothing was published that had not been seen, and the cell's pen is there
abbrev pub Opens : Step (List Change) → View (List Change) ℕ → ℕ → View (List Change) ℕ → Type 0
Opens s before found after = found ≡ s.old → (after.0 ≡ before.0) × (after.1.0 ≡ nib may_make (key_of (length before.0)) 0)

-- the open batch was published, after all that had been seen
abbrev pub Closes : Step (List Change) → View (List Change) ℕ → ℕ → View (List Change) ℕ → Type 0
Closes s before found after = after.0 ≡ before.0 ++ s.ask ∷ []

-- the pen of the open batch
abbrev pub pen_behind : ℕ → Nib
pen_behind batches = nib may_write (key_of batches) 0

-- a history as its publisher holds it: which opening it is of, the batches, and whether one is open
pub record Chronicle : Type 0 where
  pub opening : Book
  pub published : Batches
  pub is_open : Bool
