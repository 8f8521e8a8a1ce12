-- The laws above the lines of a stream. This product's own rule.
use Rattle.std.specs.Prelude.{ℕ, ◌≡◌, ◌≤◌, ◌++◌, ◌∷◌, List, [], false, length, true, Err}
use Rattle.std.specs.List.{AllByRecursion, flat_map}
use Rattle.csv.specs.Reading.{AreRecords, default_config}
use Rattle.csv.specs.declared.parser.State.TheVariants as state
use Rattle.nms_quote.specs.Roster.{Listing}
use Rattle.nms_quote.specs.declared.feed.Feed.{Feed}
use Rattle.nms_lines.specs.Layout.{Record}
use Rattle.nms_lines.specs.declared.line_fault.LineFault.TheVariants as fault
use Rattle.nms_whole.specs.Lines.{has_byte, is_fit, passed, refused_line, whole_lines}
use Rattle.nms_lines.specs.ChangeReading.{feed_reading}

-- no line feed is in a line
abbrev pub IsLine : List ℕ → Type 0
IsLine line = has_byte 10 line ≡ false

-- the records of a text that goes on where a record may begin
abbrev pub AreRecordsOf : List ℕ → List Record → Type 0
AreRecordsOf text records = AreRecords default_config state.StartRecord text records

-- each line is passed on and read by itself: the records of a stream are that of its first line, if there is one, and then
-- those of the rest. So no line costs more than one record, with any content
abbrev pub EachLineIsReadAlone : Type 0
EachLineIsReadAlone = (line rest : List ℕ) (more : List Record) → IsLine line → AreRecordsOf (whole_lines rest) more
    → (one : List Record) × (length one ≤ 1) × AreRecordsOf (passed line) one × AreRecordsOf (whole_lines (line ++ 10 ∷ rest)) (one ++ more)

-- a line that is refused is one record, which every feed refuses
abbrev pub RefusesOneRecord : Type 0
RefusesOneRecord = AreRecordsOf refused_line (((63 ∷ []) ∷ []) ∷ [])
    × ((roster : Listing) (feed : Feed) → feed_reading roster feed ((63 ∷ []) ∷ []) ≡ Err fault.UnknownKind)

-- the lines as text
abbrev pub text_of_lines : List (List ℕ) → List ℕ
text_of_lines lines = flat_map (λ line. line ++ 10 ∷ []) lines

-- lines that may be passed on are passed on as they are
abbrev pub PassesLinesOn : Type 0
PassesLinesOn = (lines : List (List ℕ)) → AllByRecursion (λ line. IsLine line × (is_fit line ≡ true)) lines
    → whole_lines (text_of_lines lines) ≡ text_of_lines lines
