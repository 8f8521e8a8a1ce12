-- What a publisher, a receipt and a desk say of themselves. This product's own rule.
use Rattle.std.specs.Prelude.{ℕ, ◌≡◌, List, [], ◌∷◌, ◌++◌, length, max}
use Rattle.std.specs.List.{AllByRecursion}
use mathlib.Core.List.{IsPrefix}
use Rattle.logbook.specs.Pages.{Book}
use Rattle.nms_quote.specs.Roster.{Sizes, sizes_of}
use Rattle.nms_quote.specs.Tape.{Tape}
use Rattle.nms_quote.specs.declared.change.Change.{Change}
use Rattle.nms_board.specs.Cells.{Board, StandsFor}
use Rattle.nms_fees.specs.Settings.{Settings}
use Rattle.nms_versions.specs.Published.{Batches, changes}

-- a publisher: which opening it is of, the batches published, the changes appended since, the roster's
-- sizes, and how many changes the tape may have
pub record Taped : Type 0 where
  pub opening : Book
  pub published : Batches
  pub pending : List Change
  pub sizes : Sizes
  pub limit : ℕ

-- all that was appended
abbrev pub tape_of : Taped → Tape
tape_of taped = changes taped.published ++ taped.pending

-- a publisher just opened
abbrev pub opened : Book → Settings → Taped
opened opening setup = record { opening = opening; published = []; pending = []; sizes = sizes_of setup.roster; limit = setup.tape_limit }

-- a receipt: which opening it is of, and the batches that were published when it was given
pub record Receipted : Type 0 where
  pub opening : Book
  pub published : Batches

-- a desk: which opening it is of, the roster's sizes, and the versions that it saw or learned of, the last one first
pub record Knowing : Type 0 where
  pub opening : Book
  pub sizes : Sizes
  pub known : List Tape

-- a desk just opened knows the empty version
abbrev pub unseeing : Book → Settings → Knowing
unseeing opening setup = record { opening = opening; sizes = sizes_of setup.roster; known = [] ∷ [] }

-- the greatest length of these versions
abbrev pub longest_of : List Tape → ℕ
longest_of [] = 0
longest_of (version ∷ versions) = max (length version) (longest_of versions)

-- the version begins with each of these
abbrev pub AllBegin : Tape → List Tape → Type 0
AllBegin version known = AllByRecursion (λ earlier. IsPrefix earlier version) known

-- a desk was shown a board: it is what a version makes of its roster, which begins with all that the desk knew. From now on
-- the desk knows that version
pub record IsShown (before after : Knowing) (board : Board) (version : Tape) : Type 0 where
  pub stands : StandsFor board version
  pub sizes : board.sizes ≡ before.sizes
  pub begins : AllBegin version before.known
  pub knows : after ≡ record before { known = version ∷ before.known }
