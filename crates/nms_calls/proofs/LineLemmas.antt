-- The lines of a text, one after another.
use Rattle.std.proofs.Common.{◌≡◌, ◌==◌, ◌∙◌, ◌+◌, ◌-◌, ◌<◌, ◌≤◌, ℕ, suc, List, [], ◌∷◌, Bool, true, false, Option, Some, None, ap, sym, refl, cond}
use Rattle.std.proofs.Common.{arith, drop, nat_lt, not, get_or, length, min, position, take}
use Rattle.std.specs.List.{slice_split, onto_first, position_or_len}
use Rattle.std.specs.Str.Lines.{lines, lines_of_parts, strip_carriage_return}
use Rattle.std.proofs.lemmas.List.{drop-drop, drop_all, drop_more, length-drop, length-take-le}
use Rattle.std.proofs.Math.Dec.{eqb-suc-zero}
use Rattle.std.proofs.lemmas.Bool.{ltb-false}
use Rattle.std.proofs.lemmas.List.Quantifiers.{position-Some}
use Rattle.std.proofs.lemmas.List.Sums.{position_or_len_is, sum_by_more}
use Rattle.std.proofs.lemmas.List.Splits.{length-slice_split, slice_split_first}
use Rattle.nms_calls.specs.TextLines.{line_start}

abbrev is_feed : ℕ → Bool
is_feed byte = byte == 10

abbrev parts_of : List ℕ → List (List ℕ)
parts_of text = slice_split is_feed text

-- ---- the parts of a text between its line feeds

-- there is at least one
abbrev HasPart : List (List ℕ) → Type 0
HasPart parts = (first : List ℕ) × (rest : List (List ℕ)) × (parts ≡ first ∷ rest)

onto_first_has : (x : ℕ) (parts : List (List ℕ)) → HasPart (onto_first x parts)
onto_first_has x [] = (x ∷ [], [], refl)
onto_first_has x (part ∷ parts) = (x ∷ part, parts, refl)

cond_has : (b : Bool) (x : ℕ) (parts : List (List ℕ)) → HasPart (cond b ([] ∷ parts) (onto_first x parts))
cond_has true x parts = ([], parts, refl)
cond_has false x parts = onto_first_has x parts

has_part : (text : List ℕ) → HasPart (parts_of text)
has_part [] = ([], [], refl)
has_part (x ∷ xs) = cond_has (is_feed x) x (parts_of xs)

-- up to the first line feed, at a place
place_found : (text : List ℕ) (place : ℕ) → position is_feed text ≡ Some place → (position_or_len is_feed text ≡ place) × (place < length text)
place_found text place at =
    let (within, feed, before) = position-Some is_feed text place 0 at in
    (position_or_len_is is_feed text place 0 (omega (arith, within)) before (λ below. feed), within)

split_found : (text : List ℕ) (place : ℕ) → position is_feed text ≡ Some place
    → parts_of text ≡ take place text ∷ parts_of (drop (place + 1) text)
split_found text place at =
    let found = place_found text place at in
    slice_split_first is_feed text 0 (omega (arith, found.0, found.1))
    ∙ ap (λ (k : ℕ). take k text ∷ parts_of (drop (k + 1) text)) found.0

-- without one
alone_at : (b : Bool) (x n : ℕ) (xs : List ℕ) → suc (length xs) ≤ cond (not b) (1 + n) 0 → (length xs ≤ n → parts_of xs ≡ xs ∷ [])
    → cond b ([] ∷ parts_of xs) (onto_first x (parts_of xs)) ≡ (x ∷ xs) ∷ []
alone_at true x n xs past rest = absurd (omega (arith, past))
alone_at false x n xs past rest = ap (onto_first x) (rest (omega (arith, past)))

alone_past : (text : List ℕ) → length text ≤ position_or_len is_feed text → parts_of text ≡ text ∷ []
alone_past [] past = refl
alone_past (x ∷ xs) past = alone_at (is_feed x) x (position_or_len is_feed xs) xs past (alone_past xs)

no_place : (b : Bool) (k : ℕ) → cond b (Some k) None ≡ None → b ≡ false
no_place true k none = let e : Some k ≡ None = none in absurd (cc e)
no_place false k none = refl

split_alone : (text : List ℕ) → position is_feed text ≡ None → parts_of text ≡ text ∷ []
split_alone text none =
    alone_past text (ltb-false (position_or_len is_feed text) (length text)
    (no_place (nat_lt (position_or_len is_feed text) (length text)) (position_or_len is_feed text) none))

-- ---- a line

-- a part with others after it is a line without its carriage return
line_before : (part : List ℕ) (parts : List (List ℕ)) → HasPart parts
    → lines_of_parts (part ∷ parts) ≡ strip_carriage_return part ∷ lines_of_parts parts
line_before part parts (first, rest, is) = rw is refl

pub line_found : (text : List ℕ) (place : ℕ) → position is_feed text ≡ Some place
    → lines text ≡ strip_carriage_return (take place text) ∷ lines (drop (place + 1) text)
line_found text place at =
    ap lines_of_parts (split_found text place at)
    ∙ line_before (take place text) (parts_of (drop (place + 1) text)) (has_part (drop (place + 1) text))

pub line_alone : (text : List ℕ) → 0 < length text → position is_feed text ≡ None → lines text ≡ text ∷ lines (drop (length text) text)
line_alone text some none =
    ap lines_of_parts (split_alone text none)
    ∙ alone_of text some
    ∙ ap (λ (left : List ℕ). text ∷ lines left) (sym (drop_all (length text) text (omega arith)))
  where
    alone_of : (text : List ℕ) → 0 < length text → lines_of_parts (text ∷ []) ≡ text ∷ []
    alone_of [] some = absurd (omega arith)
    alone_of (x ∷ xs) some = ap (λ (none : Bool). cond none [] ((x ∷ xs) ∷ [])) (eqb-suc-zero (length xs))

pub start_found : (text : List ℕ) (place : ℕ) → position is_feed text ≡ Some place → place + 1 ≡ line_start text 1
start_found text place at =
    let found = place_found text place at in
    rw (split_found text place at) (omega (arith, length-take-le place text, found.1))

pub start_alone : (text : List ℕ) → position is_feed text ≡ None → length text ≡ line_start text 1
start_alone text none = rw (split_alone text none) (omega arith)

-- ---- how far a text was read

-- n lines take the given bytes, and what is left has the other lines
pub record IsAt (text : List ℕ) (n start : ℕ) : Type 0 where
  pub within : start ≤ length text
  pub few : n ≤ start
  pub start_of : start ≡ line_start text n
  pub rest : lines (drop start text) ≡ drop n (lines text)
  pub parts : start < length text → parts_of (drop start text) ≡ drop n (parts_of text)

pub at_none : (text : List ℕ) → IsAt text 0 0
at_none text = record { within = omega arith; few = omega arith; start_of = omega arith; rest = refl; parts = λ some. refl }

-- the parts after the first line
parts_after : (text : List ℕ) → line_start text 1 < length text → parts_of (drop (line_start text 1) text) ≡ drop 1 (parts_of text)
parts_after text some = split (position is_feed text) refl
  where
    split : (found : Option ℕ) → position is_feed text ≡ found → parts_of (drop (line_start text 1) text) ≡ drop 1 (parts_of text)
    split None none = absurd (omega (arith, some, start_alone text none))
    split (Some place) at =
        ap (λ (k : ℕ). parts_of (drop k text)) (sym (start_found text place at))
        ∙ sym (ap (λ (parts : List (List ℕ)). drop 1 parts) (split_found text place at))

-- the first line has the bytes of the first part and a line feed, if there is one
bytes_of_first : (text : List ℕ) → line_start text 1 ≡ min (length text) (length (get_or (parts_of text) 0 []) + 1)
bytes_of_first text = by_part (has_part text)
  where
    by_part : HasPart (parts_of text) → line_start text 1 ≡ min (length text) (length (get_or (parts_of text) 0 []) + 1)
    by_part (first, rest, is) = rw is (omega arith)

-- one line more
pub at_more : (text line : List ℕ) (n start bytes : ℕ) → start < length text → IsAt text n start
    → lines (drop start text) ≡ line ∷ lines (drop bytes (drop start text)) → bytes ≡ line_start (drop start text) 1
    → IsAt text (n + 1) (start + bytes)
at_more text line n start bytes some at said bytes_of =
    let rest : List ℕ = drop start text in
    let parts : List (List ℕ) = parts_of text in
    let long : length rest ≡ length text - start = length-drop start text in
    let beyond : drop (start + bytes) text ≡ drop bytes rest = sym (drop-drop bytes start text) in
    let here : parts_of rest ≡ drop n parts = at.parts some in
    let there : n < length parts = omega (arith, ap length here, length-drop n parts, length-slice_split is_feed rest) in
    let first : get_or (parts_of rest) 0 [] ≡ get_or parts n [] =
    ap (λ (ps : List (List ℕ)). get_or ps 0 []) (here ∙ drop_more parts n [] there) in
    record {
      within = omega (arith, bytes_of, long, at.within);
      few = omega (arith, bytes_of, bytes_of_first rest, long, some, at.few);
      start_of = omega (
        arith,
        bytes_of,
        bytes_of_first rest,
        ap length first,
        long,
        some,
        at.start_of,
        sum_by_more (λ (part : List ℕ). length part + 1) parts n [] there,
      );
      rest = ap lines beyond ∙ ap (λ (ls : List (List ℕ)). drop 1 ls) (sym said ∙ at.rest) ∙ drop-drop 1 n (lines text);
      parts = λ more.
          let inner : line_start rest 1 < length rest = omega (arith, more, bytes_of, long) in
          ap parts_of (beyond ∙ ap (λ (k : ℕ). drop k rest) bytes_of) ∙ parts_after rest inner
          ∙ ap (λ (ps : List (List ℕ)). drop 1 ps) here ∙ drop-drop 1 n parts;
    }

-- that line
pub line_at : (text line left : List ℕ) (n start : ℕ) → IsAt text n start → lines (drop start text) ≡ line ∷ lines left
    → (n < length (lines text)) × (get_or (lines text) n [] ≡ line)
line_at text line left n start at said =
    let there : n < length (lines text) = omega (arith, ap length (sym at.rest ∙ said), length-drop n (lines text)) in
    let both : get_or (lines text) n [] ∷ drop (n + 1) (lines text) ≡ line ∷ lines left =
    sym (drop_more (lines text) n [] there) ∙ sym at.rest ∙ said in
    (there, cc both)

-- at the end no line is left
pub none_left : (text : List ℕ) (n start : ℕ) → length text ≤ start → IsAt text n start → length (lines text) ≤ n
none_left text n start past at =
    let nothing : drop start text ≡ [] = drop_all start text past in
    omega (arith, ap length (sym at.rest ∙ ap lines nothing), length-drop n (lines text))
