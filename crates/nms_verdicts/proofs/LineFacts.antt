-- The first line of a text, and the first field of a line.
use Rattle.std.proofs.Common.{ℕ, ◌≡◌, ◌+◌, ◌<◌, ◌≤◌, ◌&&◌, ◌||◌, Bool, true, false, List, [], ◌∷◌, length, suc, zero, take, drop, refl}
use Rattle.std.proofs.Common.{sym, ap}
use Rattle.std.proofs.Common.{◌∙◌, arith, if◌then◌else◌, nat_eq}
use Rattle.std.specs.Prelude.{◌==◌, not, Some, Result, Ok, Err, IfOk}
use Rattle.std.proofs.lemmas.Bool.{false≢true}
use Rattle.std.proofs.lemmas.List.{drop_all}
use Rattle.csv.specs.Reading.{strip_bom}
use Rattle.memchr.specs.Find.{Nowhere, Passes, is_byte, is_byte2}
use Rattle.nms_lines.specs.Layout.{Record, field}
use Rattle.nms_lines.specs.Records.{AreAllRecords}
use Rattle.nms_verdicts.specs.Pieces.{IsKind, before_comma, begins_with, ends_behind, first_length, kind_of_records, kind_of_word, lines_of}
use Rattle.nms_verdicts.specs.Pieces.{plain_kind, trimmed, with_byte}
use Rattle.nms_verdicts.specs.declared.pieces.Kind.{Kind}
use Rattle.nms_verdicts.specs.declared.pieces.Kind.TheVariants as kind
use lib.Pointwise.{pointwise}

-- a test that does not hold fails
fails : (test : Bool) → ¬ (test ≡ true) → test ≡ false
fails true not_so = absurd (not_so refl)
fails false not_so = refl

-- none of two tests holds
neither : (a b c : Bool) → (a || b) ≡ false → (a || (b && c)) ≡ false
neither true b c none = absurd (false≢true (sym none))
neither false true c none = absurd (false≢true (sym none))
neither false false c none = refl

split : (ends : Bool) (byte : ℕ) (more : List ℕ)
    → (0 < length more → lines_of more ≡ take (first_length more) more ∷ lines_of (drop (first_length more) more))
    → (if ends then (byte ∷ []) ∷ lines_of more else with_byte byte (lines_of more))
    ≡ take (if ends then 1 else suc (first_length more)) (byte ∷ more)
    ∷ lines_of (drop (if ends then 1 else suc (first_length more)) (byte ∷ more))
split true byte more rest = refl
split false byte [] rest = refl
split false byte (next ∷ more) rest = ap (with_byte byte) (rest (omega arith))

-- the first line, and then those of what is left
pub first_line : (text : List ℕ) → 0 < length text
    → lines_of text ≡ take (first_length text) text ∷ lines_of (drop (first_length text) text)
first_line [] some = absurd (omega (arith, some))
first_line (byte ∷ more) some = split (ends_behind byte more) byte more (λ h. first_line more h)

-- no line ends before the first end of a line
pub behind : (k : ℕ) (text : List ℕ) → k ≤ length text → Nowhere (Passes (is_byte2 10 13) text) 0 k
    → k + first_length (drop k text) ≡ first_length text
behind zero text within none = omega arith
behind (suc k) [] within none = absurd (omega (arith, within))
behind (suc k) (byte ∷ more) within none =
    let here : ends_behind byte more ≡ false =
    neither (byte == 10) (byte == 13) (not (begins_with 10 more)) (fails (is_byte2 10 13 byte) (none 0 (omega arith) (omega arith))) in
    let later : k + first_length (drop k more) ≡ first_length more =
    behind k more (omega (arith, within)) (λ j low high. none (suc j) (omega arith) (omega (arith, high))) in
    rw here (omega (arith, later))

-- the last line may have no end
pub all_behind : (text : List ℕ) → Nowhere (Passes (is_byte2 10 13) text) 0 (length text) → length text ≡ first_length text
all_behind text none =
    let nothing : length text + first_length (drop (length text) text) ≡ first_length text =
    behind (length text) text (omega arith) none in
    omega (arith, nothing, ap first_length (drop_all (length text) text (omega arith)))

-- the first comma ends the first field
pub first_comma : (k : ℕ) (text : List ℕ) → k < length text → Nowhere (Passes (is_byte 44) text) 0 k
    → Passes (is_byte 44) text k → take k text ≡ before_comma text
first_comma k [] within none comma = absurd (omega (arith, within))
first_comma zero (byte ∷ more) within none comma = rw comma refl
first_comma (suc k) (byte ∷ more) within none comma =
    let here : is_byte 44 byte ≡ false = fails (is_byte 44 byte) (none 0 (omega arith) (omega arith)) in
    rw here (ap (λ (rest : List ℕ). byte ∷ rest) (first_comma k more (omega (arith, within))
    (λ j low high. none (suc j) (omega arith) (omega (arith, high))) comma))

-- without one it is all of it
pub no_comma : (text : List ℕ) → Nowhere (Passes (is_byte 44) text) 0 (length text) → text ≡ before_comma text
no_comma [] none = refl
no_comma (byte ∷ more) none =
    let here : is_byte 44 byte ≡ false = fails (is_byte 44 byte) (none 0 (omega arith) (omega arith)) in
    rw here (ap (λ (rest : List ℕ). byte ∷ rest) (no_comma more (λ j low high. none (suc j) (omega arith) (omega (arith, high)))))

-- the kind of a blank line
pub blank_line : (line cut : List ℕ) → cut ≡ trimmed line → (length cut == 0) ≡ true → kind.Blank ≡ plain_kind line
blank_line line cut is none =
    let short : (length (trimmed line) == 0) ≡ true = ap (λ (text : List ℕ). length text == 0) (sym is) ∙ none in
    rw short refl

-- the kind of a line that is not blank
pub word_line : (line cut word : List ℕ) (found : Kind) → cut ≡ trimmed line → (length cut == 0) ≡ false → word ≡ before_comma cut
    → found ≡ kind_of_word word → found ≡ plain_kind line
word_line line cut word found is some first named =
    let long : (length (trimmed line) == 0) ≡ false = ap (λ (text : List ℕ). length text == 0) (sym is) ∙ some in
    let same : found ≡ kind_of_word (before_comma (trimmed line)) =
    named ∙ ap kind_of_word (first ∙ ap before_comma is) in
    rw long same

-- the kind of a line that is read as records
pub first_kind : (records more : List Record) (fields : Record) (word : List ℕ) (found : Kind) → records ≡ fields ∷ more
    → word ≡ trimmed (field fields 0) → found ≡ kind_of_word word → found ≡ kind_of_records records
first_kind records more fields word found is first named = rw is (named ∙ ap kind_of_word first)

-- a line that begins with a quote
pub quoted_line : {E : Type 0} (line : List ℕ) (found : Result Kind E) → begins_with 34 line ≡ true
    → ((records : List Record) → AreAllRecords (Some line) records → IfOk found (λ it. it ≡ kind_of_records records))
    → IfOk found (IsKind line)
quoted_line line (Ok it) quote read = record {
  plain = λ none. absurd (false≢true (sym none ∙ quote));
  quoted = λ some records all. read records all;
}
quoted_line line (Err fault) quote read = tt

-- a line that begins with none
pub plain_line : (line : List ℕ) (found : Kind) → begins_with 34 line ≡ false → found ≡ plain_kind line → IsKind line found
plain_line line found none is = record {
  plain = λ same. is;
  quoted = λ some. absurd (false≢true (sym none ∙ some));
}

and_false : (x : Bool) → (x && false) ≡ false
and_false true = refl
and_false false = refl

and_false_2 : (x y : Bool) → (x && (y && false)) ≡ false
and_false_2 true y = and_false y
and_false_2 false y = refl

same_mark : (x y z : Bool) (rest all : List ℕ) → (x && (y && (z && true))) ≡ true → rest ≡ (if x && y && z then rest else all)
same_mark true true true rest all mark = refl
same_mark true true false rest all mark = absurd (false≢true mark)
same_mark true false z rest all mark = absurd (false≢true mark)
same_mark false y z rest all mark = absurd (false≢true mark)

other_mark : (x y z : Bool) (rest all : List ℕ) → (x && (y && (z && true))) ≡ false → all ≡ (if x && y && z then rest else all)
other_mark true true true rest all mark = absurd (false≢true (sym mark))
other_mark true true false rest all mark = refl
other_mark true false z rest all mark = refl
other_mark false y z rest all mark = refl

-- a text that begins with the mark of the byte order
pub marked : (text : List ℕ) → pointwise nat_eq (take 3 text) (239 ∷ 187 ∷ 191 ∷ []) ≡ true → drop 3 text ≡ strip_bom text
unfolding strip_bom
marked [] mark = refl
marked (a ∷ []) mark = absurd (false≢true (sym (and_false (nat_eq a 239)) ∙ mark))
marked (a ∷ b ∷ []) mark = absurd (false≢true (sym (and_false_2 (nat_eq a 239) (nat_eq b 187)) ∙ mark))
marked (a ∷ b ∷ c ∷ rest) mark = same_mark (nat_eq a 239) (nat_eq b 187) (nat_eq c 191) rest (a ∷ b ∷ c ∷ rest) mark

-- and one that does not
pub unmarked : (text : List ℕ) → pointwise nat_eq (take 3 text) (239 ∷ 187 ∷ 191 ∷ []) ≡ false → text ≡ strip_bom text
unfolding strip_bom
unmarked [] mark = refl
unmarked (a ∷ []) mark = refl
unmarked (a ∷ b ∷ []) mark = refl
unmarked (a ∷ b ∷ c ∷ rest) mark = other_mark (nat_eq a 239) (nat_eq b 187) (nat_eq c 191) rest (a ∷ b ∷ c ∷ rest) mark
