-- What a keeper keeps of an epoch: the tape, its board, and what was written of it. This product's own rule.
use Rattle.std.specs.Prelude.{ℕ, ◌≡◌, ◌⊎◌, false, ◌+◌, ◌≤◌, ◌++◌, ◌∷◌, [], List, Option, drop, fold, length}
use Rattle.std.specs.Io.KnownBytes.{Appends}
use Rattle.nms_quote.specs.Roster.{Listing, holds, sizes_of}
use Rattle.nms_quote.specs.declared.change.Change.{Change}
use Rattle.nms_quote.specs.declared.TheConstants.{MOST_CHANGES}
use Rattle.nms_board.specs.Cells.{Board, after, opening}
use Rattle.nms_change_text.specs.ChangeText.{changes_text}
use Rattle.nms_lines.specs.Written.{AppendsPart}
use Rattle.nms_versions.specs.Published.{changes, committed}
use Rattle.nms_versions.specs.Taped.{Taped, tape_of}
use Rattle.nms_serving.specs.Lengths.{length_line}
use Rattle.nms_serving.specs.declared.serve_fault.ServeFault.{ServeFault}
use Rattle.nms_serving.specs.declared.serve_fault.ServeFault.TheVariants as faults
use Rattle.nms_serving.specs.declared.stream.Stream.TheVariants as streams

-- the roster, the tape as its publisher has it, the tape's board, the writers of the tape and of its lengths, how many
-- changes were published, and how often
pub record Keeping (X Y : Type 0) : Type 0 where
  pub roster : Listing
  pub publisher : Taped
  pub board : Board
  pub tape : X
  pub lengths : Y
  pub published : ℕ
  pub publishings : ℕ

-- what holds of every keeper: its counts are those of the tape, and its board is the tape's
pub record IsKept {X Y : Type 0} (keeping : Keeping X Y) : Type 0 where
  pub counted : keeping.published ≡ length (changes keeping.publisher.published)
  pub often : keeping.publishings ≤ keeping.published
  pub limited : keeping.publisher.limit ≤ MOST_CHANGES
  pub rostered : keeping.publisher.sizes ≡ sizes_of keeping.roster
  pub sized : keeping.board.sizes ≡ keeping.publisher.sizes
  pub standing : keeping.board ≡ fold after (opening keeping.publisher.sizes) (tape_of keeping.publisher)

-- one change more is on the tape; nothing is written or published
abbrev pub with_change : {X Y : Type 0} → Keeping X Y → Change → Keeping X Y
with_change keeping change = record keeping {
  publisher = record keeping.publisher { pending = keeping.publisher.pending ++ change ∷ [] };
  board = after keeping.board change;
}

-- all of the tape is published, with the writers as they are then
abbrev pub with_all_published : {X Y : Type 0} → Keeping X Y → X → Y → Keeping X Y
with_all_published keeping tape lengths = record keeping {
  publisher = record keeping.publisher { published = committed keeping.publisher.published keeping.publisher.pending; pending = [] };
  tape = tape;
  lengths = lengths;
  published = length (tape_of keeping.publisher);
  publishings = keeping.publishings + 1;
}

-- the writers have what they took, and all else is as it was
abbrev pub with_writers : {X Y : Type 0} → Keeping X Y → X → Y → Keeping X Y
with_writers keeping tape lengths = record keeping { tape = tape; lengths = lengths }

-- what waited was appended to the tape's writer as text, and the tape's length to the other: these say what a writer holds
pub record IsWritten {X Y : Type 0} (tape_of_writer : X → Option (List ℕ)) (lengths_of_writer : Y → Option (List ℕ)) (old new : Keeping X Y)
    : Type 0 where
  pub recorded : Appends (tape_of_writer old.tape) (tape_of_writer new.tape)
      (changes_text old.roster (drop old.published (tape_of new.publisher)))
  pub listed : Appends (lengths_of_writer old.lengths) (lengths_of_writer new.lengths) (length_line (length (tape_of new.publisher)))

-- the text of the changes that wait
abbrev pub unwritten : {X Y : Type 0} → Keeping X Y → List ℕ
unwritten keeping = changes_text keeping.roster (drop keeping.published (tape_of keeping.publisher))

-- what a failed writing leaves: a prefix of that text, and the lengths as they were; or all of it, and a prefix of the length
abbrev pub LeavesPart : {X Y : Type 0} → (X → Option (List ℕ)) → (Y → Option (List ℕ)) → Keeping X Y → Keeping X Y → Type 0
LeavesPart tape_of_writer lengths_of_writer old new =
    (AppendsPart (tape_of_writer old.tape) (tape_of_writer new.tape) (unwritten old)
    × Appends (lengths_of_writer old.lengths) (lengths_of_writer new.lengths) [])
    ⊎ (Appends (tape_of_writer old.tape) (tape_of_writer new.tape) (unwritten old)
    × AppendsPart (lengths_of_writer old.lengths) (lengths_of_writer new.lengths) (length_line (length (tape_of old.publisher))))

-- a change is not taken, because it is not of the roster, or the tape has the most changes that it may have
abbrev pub IsRefused : Taped → Change → Type 0
IsRefused taped change = (holds taped.sizes change ≡ false) ⊎ (length (tape_of taped) ≡ taped.limit)

-- a fault of writing: out of memory, or one of the two writers failed
abbrev pub IsOfWriting : ServeFault → Type 0
IsOfWriting fault =
    (fault ≡ faults.NoMemory) ⊎ ((fault ≡ faults.NotWritten streams.Tape) ⊎ (fault ≡ faults.NotWritten streams.Lengths))
