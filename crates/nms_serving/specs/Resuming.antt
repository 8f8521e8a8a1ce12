-- What the end of a process, at whatever moment, leaves of an epoch's two files; and the board with which the next epoch goes
-- on. This product's own rule.
use Rattle.std.specs.Prelude.{ℕ, zero, suc, ◌≡◌, ◌==◌, ◌+◌, ◌≤◌, Bool, false, All, List, [], ◌∷◌, ◌++◌, drop, fold, length, max}
use Rattle.std.specs.Prelude.{Option, Some, None, if◌then◌else◌, take}
use Rattle.std.specs.Fmt.{decimal}
use Rattle.std.specs.List.{flat_map, list_any}
use Rattle.nms_quote.specs.Roster.{Listing, sizes_of}
use Rattle.nms_quote.specs.Tape.{Tape, version}
use Rattle.nms_quote.specs.declared.TheConstants.{MOST_CHANGES}
use Rattle.nms_board.specs.Cells.{Board, after, opening}
use Rattle.nms_fees.specs.Settings.{Settings}
use Rattle.nms_change_text.specs.ChangeText.{changes_text}
use Rattle.nms_change_text.specs.ReadBack.{FitsRecord}
use Rattle.nms_files.specs.ChangeFile.{IsFileTape}
use Rattle.nms_answers.specs.ServedEpoch.{RiseTo}
use Rattle.nms_serving.specs.Lengths.{length_line}
use Rattle.nms_serving.specs.Room.{most_opening}
use Rattle.nms_serving.specs.declared.TheConstants.{MOST_BATCH}
use Rattle.nms_serving.specs.declared.resuming.TheConstants.{MOST_DIGITS}
use Rattle.nms_serving.specs.declared.resuming.LeftBoard.{LeftBoard}

-- ---- what is left

-- how many changes may be written and not published: a batch; or, if nothing was published, all opening changes of an epoch
abbrev pub most_behind : Listing → ℕ → ℕ
most_behind roster zero = max MOST_BATCH (most_opening roster)
most_behind roster (suc published) = MOST_BATCH

-- the text of the lengths
abbrev pub lengths_text : List ℕ → List ℕ
lengths_text lengths = flat_map length_line lengths

-- the tape is all that an epoch began to write; that number of changes was published, at these lengths. The tape's file has the
-- published changes and a prefix of the others. The other file has the lengths, and a prefix of the next one
pub record IsLeft (settings : Settings) (tape : Tape) (lengths : List ℕ) (published : ℕ) (text listed : List ℕ) : Type 0 where
  pub fits : All (FitsRecord settings.roster) tape
  pub limit : length tape ≤ settings.tape_limit
  pub rising : RiseTo 0 published lengths
  pub within : published ≤ length tape
  pub few : length tape ≤ published + most_behind settings.roster published
  pub behind : List ℕ
  pub unwritten : List ℕ
  pub parted : changes_text settings.roster (drop published tape) ≡ behind ++ unwritten
  pub recorded : text ≡ changes_text settings.roster (version published tape) ++ behind
  pub next : ℕ
  pub possible : next ≤ MOST_CHANGES
  pub torn : List ℕ
  pub unlisted : List ℕ
  pub begun : decimal next ≡ torn ++ unlisted
  pub lines : listed ≡ lengths_text lengths ++ torn

-- ---- what is made of it

-- the board of a tape
abbrev pub board_of : Settings → Tape → Board
board_of settings tape = fold after (opening (sizes_of settings.roster)) tape

-- the board is that of the changes that were published, and the files are cut after them
pub record GoesOn (settings : Settings) (tape : Tape) (lengths : List ℕ) (published : ℕ) (left : LeftBoard) : Type 0 where
  pub board : left.board ≡ board_of settings (version published tape)
  pub count : left.published ≡ published
  pub text : left.tape_end ≡ length (changes_text settings.roster (version published tape))
  pub listed : left.lengths_end ≡ length (lengths_text lengths)

-- for any files: the board is that of the records before the cut, and their number of changes is the one counted
pub record IsOfRecords (settings : Settings) (text : List ℕ) (left : LeftBoard) : Type 0 where
  pub tape : Tape
  pub read : IsFileTape settings (Some (take left.tape_end text)) tape
  pub count : left.published ≡ length tape
  pub board : left.board ≡ board_of settings tape

-- ---- lines of a text

-- the text is the lines of these lengths, which rise to that of what was published, and a part of one more
pub record AreListed (lengths : List ℕ) (published : ℕ) (torn text : List ℕ) : Type 0 where
  pub rising : RiseTo 0 published lengths
  pub possible : published ≤ MOST_CHANGES
  pub part : list_any (λ byte. byte == 10) torn ≡ false
  pub short : length torn ≤ MOST_DIGITS
  pub lines : text ≡ lengths_text lengths ++ torn

-- what is left of a text after its first lines, if it has that number of them
abbrev pub after_lines : ℕ → List ℕ → Option (List ℕ)
after_lines zero text = Some text
after_lines (suc lines) [] = None
after_lines (suc lines) (byte ∷ text) = after_lines (if byte == 10 then lines else suc lines) text

-- how many lines begin in a text; the first one only if it begins there
abbrev pub lines_begun : Bool → List ℕ → ℕ
lines_begun begins [] = 0
lines_begun begins (byte ∷ text) = (if begins then 1 else 0) + lines_begun (byte == 10) text
