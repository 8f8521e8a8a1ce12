-- The pieces of a text of answers: the texts of plans, and what is there instead of one. This product's own rule.
use Rattle.std.specs.Prelude.{ℕ, ◌≡◌, suc, ◌-◌, ◌==◌, ◌++◌, ◌∷◌, ◌&&◌, ◌||◌, [], All, Bool, List, Option, Some, None, true, false, codes}
use Rattle.std.specs.Prelude.{length}
use Rattle.std.specs.Prelude.{if◌then◌else◌, map, not, option_map, option_to_list, take, unwrap_or}
use Rattle.std.specs.Char.{is_ascii_whitespace}
use Rattle.std.specs.List.{suffix_len}
use Rattle.nms_lines.specs.Layout.{Record, field, is_text}
use Rattle.nms_lines.specs.Records.{AreAllRecords}
use Rattle.nms_verdicts.specs.declared.pieces.Kind.{Kind}
use Rattle.nms_verdicts.specs.declared.pieces.Kind.TheVariants as kind

-- whether a text begins with a byte
abbrev pub begins_with : ℕ → List ℕ → Bool
begins_with byte [] = false
begins_with byte (first ∷ more) = first == byte

-- whether a line ends after a byte: after a line feed, and after a carriage return that no line feed follows
abbrev pub ends_behind : ℕ → List ℕ → Bool
ends_behind byte more = byte == 10 || (byte == 13 && not (begins_with 10 more))

-- a byte before the first of lines
abbrev pub with_byte : ℕ → List (List ℕ) → List (List ℕ)
with_byte byte [] = (byte ∷ []) ∷ []
with_byte byte (line ∷ lines) = (byte ∷ line) ∷ lines

-- the lines of a text, each with its end
abbrev pub lines_of : List ℕ → List (List ℕ)
lines_of [] = []
lines_of (byte ∷ more) = if ends_behind byte more then (byte ∷ []) ∷ lines_of more else with_byte byte (lines_of more)

-- how many bytes the first line takes
abbrev pub first_length : List ℕ → ℕ
first_length [] = 0
first_length (byte ∷ more) = if ends_behind byte more then 1 else suc (first_length more)

-- a text without the white space at its end
abbrev pub trimmed : List ℕ → List ℕ
trimmed text = take (length text - suffix_len is_ascii_whitespace text) text

-- a text up to its first comma
abbrev pub before_comma : List ℕ → List ℕ
before_comma [] = []
before_comma (byte ∷ more) = if byte == 44 then [] else byte ∷ before_comma more

-- the kind of a line that begins with a word
abbrev pub kind_of_word : List ℕ → Kind
kind_of_word word =
    if is_text (codes "PLAN") word then kind.Plan
    else (if is_text (codes "LEG") word then kind.Inner
    else (if is_text (codes "CUT") word then kind.Inner
    else (if is_text (codes "END") word then kind.End else kind.Other)))

-- the kind of a line that begins with no quote
abbrev pub plain_kind : List ℕ → Kind
plain_kind line = if length (trimmed line) == 0 then kind.Blank else kind_of_word (before_comma (trimmed line))

-- the kind of a line that is read as records
abbrev pub kind_of_records : List Record → Kind
kind_of_records [] = kind.Other
kind_of_records (fields ∷ more) = kind_of_word (trimmed (field fields 0))

-- the kind of a line, by its first field; if that may be in quotes, by what the reader of records reads
pub record IsKind (line : List ℕ) (is : Kind) : Type 0 where
  pub plain : begins_with 34 line ≡ false → is ≡ plain_kind line
  pub quoted : begins_with 34 line ≡ true → (records : List Record) → AreAllRecords (Some line) records → is ≡ kind_of_records records

-- a line with its end, and its kind
pub record Line : Type 0 where
  pub bytes : List ℕ
  pub is : Kind

-- the pieces at a line, from the one that has begun, if one has, and then those from the one that has begun after it
abbrev pub pieces_at : Kind → List ℕ → Option (List ℕ) → (Option (List ℕ) → List (List ℕ)) → List (List ℕ)
pieces_at kind.Plan line begun behind = option_to_list begun ++ behind (Some line)
pieces_at kind.Inner line begun behind = behind (Some (unwrap_or begun [] ++ line))
pieces_at kind.End line begun behind = (unwrap_or begun [] ++ line) ∷ behind None
pieces_at kind.Blank line begun behind = behind (option_map (λ text. text ++ line) begun)
pieces_at kind.Other line begun behind = option_to_list begun ++ behind None

-- the pieces of lines, from the one that has begun
abbrev pub pieces_in : Option (List ℕ) → List Line → List (List ℕ)
pieces_in begun [] = option_to_list begun
pieces_in begun (line ∷ lines) = pieces_at line.is line.bytes begun (λ next. pieces_in next lines)

-- the pieces of a text
pub record ArePieces (text : List ℕ) (pieces : List (List ℕ)) : Type 0 where
  pub lines : List Line
  pub whole : map (λ line. line.bytes) lines ≡ lines_of text
  pub kinds : All (λ line. IsKind line.bytes line.is) lines
  pub parted : pieces ≡ pieces_in None lines
