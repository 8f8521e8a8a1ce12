-- The rule of the pair of boards: the board that is shown is the one that its published history makes. This product's
-- own rule.
use Rattle.std.specs.Prelude.{ℕ, ◌≡◌, List, [], fold, Option, Some, None, if◌then◌else◌}
use mathlib.Core.Option.{some}
use lib.ListN.{get_elem?}
use Rattle.std.specs.declared.snapshot.Snapshot.{Snapshot}
use Rattle.logbook.specs.Pages.{Book}
use Rattle.nms_quote.specs.Roster.{Sizes}
use Rattle.nms_quote.specs.declared.change.Change.{Change}
use Rattle.nms_board.specs.Cells.{Board, StandsFor, after, takes}
use Rattle.nms_versions.specs.Fresh.{items_of}
use Rattle.nms_versions.specs.Published.{changes}
use Rattle.nms_versions.specs.declared.batch.Batch.{Batch}
use Rattle.nms_versions.specs.declared.sealed.Sealed.{Sealed}
use Rattle.nms_versions.specs.declared.known.Known.{Known}

-- a change that the board does not take leaves it
abbrev pub after_taken : Board → Change → Board
after_taken board change = if takes board change then after board change else board

-- a board once it has taken in a batch: the changes applied, and the history up to the batch
abbrev pub absorbed : Sealed → Batch → Sealed
absorbed sealed batch = record { boards = fold after_taken sealed.boards (items_of batch.changes); seen = batch.seen }

-- it knows of no opening
abbrev pub unnamed : Known
unnamed = record { opening = None }

-- a shown board has the history and the sizes of the opening that is known
pub record IsOf (sealed : Sealed) (known : Known) : Type 0 where
  pub book : (named : Snapshot Sealed) → known.opening ≡ Some named → named.value.seen.book ≡ sealed.seen.book
  pub sizes : (named : Snapshot Sealed) → known.opening ≡ Some named → named.value.boards.sizes ≡ sealed.boards.sizes

-- the rule, over the board that is shown and what the writer and each reader know
pub record Kept (sealed : Sealed) (views : List Known) : Type 0 where
  pub stands : StandsFor sealed.boards (changes sealed.seen.log)
  pub each : (seat : ℕ) (known : Known) → get_elem? views seat ≡ some known → IsOf sealed known

-- from now on it is known which opening the shown board is of
abbrev pub Names : Known → Sealed → Sealed → Known → Type 0
Names before old new after = (named : Snapshot Sealed) × (after.opening ≡ Some named) × (named.value.seen.book ≡ new.seen.book)
    × (named.value.boards.sizes ≡ new.boards.sizes)

-- it is known that the pair is of this opening
pub record IsNamed (known : Known) (book : Book) : Type 0 where
  pub named : Snapshot Sealed
  pub is_named : known.opening ≡ Some named
  pub book_is : named.value.seen.book ≡ book

-- the roster's sizes, of a shown board
abbrev pub sizes_shown : Option (Snapshot Sealed) → Sizes
sizes_shown None = record { parts = 0; lots = [] }
sizes_shown (Some shown) = shown.value.boards.sizes

-- the roster's sizes, once the opening is known
abbrev pub sizes_known : Known → Sizes
sizes_known known = sizes_shown known.opening
