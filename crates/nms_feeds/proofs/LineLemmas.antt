-- Each line of a stream is passed on and read by itself.
use Rattle.std.proofs.Common.{ℕ, ◌≡◌, ◌≤◌, ◌++◌, Bool, true, false, cond, ◌==◌, ◌&&◌, ◌||◌, not, List, [], ◌∷◌, length, Option, Some}
use Rattle.std.proofs.Common.{refl, ap, sym}
use Rattle.std.proofs.Common.{subst, ◌∙◌, append_assoc, lit≤}
use Rattle.std.specs.Prelude.{nat_le}
use Rattle.std.proofs.lemmas.List.{append-nil}
use Rattle.csv.specs.Machine.{Read, field_after, fields_after, is_end, next_record, step}
use Rattle.csv.specs.Reading.{AreRecords, Reached, default_config}
use Rattle.csv.specs.declared.parser.Action.{Action}
use Rattle.csv.specs.declared.parser.Action.TheVariants as action
use Rattle.csv.specs.declared.parser.State.{State}
use Rattle.csv.specs.declared.parser.State.TheVariants as state
use Rattle.nms_lines.specs.Layout.{Record}
use Rattle.nms_whole.specs.Lines.{has_byte, is_fit, passed, refused_line, returns_within, whole_after, whole_lines}
use Rattle.nms_whole.specs.declared.TheConstants.{MOST_LINE}
use Rattle.nms_feeds.specs.Laws.{AreRecordsOf, EachLineIsReadAlone, IsLine, PassesLinesOn, text_of_lines}

-- ---- lines of a stream

neither : (a b : Bool) → (a || b) ≡ false → (a ≡ false) × (b ≡ false)
neither true b h = absurd (cc)
neither false b h = (refl, h)

whole_line : (begun line rest : List ℕ) → has_byte 10 line ≡ false
    → whole_after begun (line ++ 10 ∷ rest) ≡ passed (begun ++ line) ++ whole_after [] rest
whole_line begun [] rest none = ap (λ (l : List ℕ). passed l ++ whole_after [] rest) (sym (append-nil begun))
whole_line begun (byte ∷ line) rest none =
    let two = neither (byte == 10) (has_byte 10 line) none in
    ap (λ (b : Bool). cond b (passed begun ++ whole_after [] (line ++ 10 ∷ rest)) (whole_after (begun ++ byte ∷ []) (line ++ 10 ∷ rest)))
    two.0
    ∙ whole_line (begun ++ byte ∷ []) line rest two.1
    ∙ ap (λ (l : List ℕ). passed l ++ whole_after [] rest) (append_assoc begun (byte ∷ []) line)

pub lines_as_they_stand : PassesLinesOn
lines_as_they_stand [] all = refl
lines_as_they_stand (line ∷ lines) all =
    ap whole_lines (append_assoc line (10 ∷ []) (text_of_lines lines))
    ∙ whole_line [] line (text_of_lines lines) all.0.0
    ∙ ap (λ (b : Bool). cond b (line ++ 10 ∷ []) refused_line ++ whole_lines (text_of_lines lines)) all.0.1
    ∙ ap (λ (t : List ℕ). (line ++ 10 ∷ []) ++ t) (lines_as_they_stand lines all.1)

-- ---- bytes that a line may have

-- no line feed, no double quote, and no carriage return but at the end
abbrev IsPlain : List ℕ → Type 0
IsPlain [] = Unit {0}
IsPlain (byte ∷ []) = ((byte == 10) ≡ false) × ((byte == 34) ≡ false)
IsPlain (byte ∷ next ∷ rest) = ((byte == 10) ≡ false) × ((byte == 34) ≡ false) × ((byte == 13) ≡ false) × IsPlain (next ∷ rest)

plain_from : (line : List ℕ) → has_byte 10 line ≡ false → has_byte 34 line ≡ false → returns_within line ≡ false → IsPlain line
plain_from [] feeds quotes returns = tt
plain_from (byte ∷ []) feeds quotes returns = ((neither (byte == 10) false feeds).0, (neither (byte == 34) false quotes).0)
plain_from (byte ∷ next ∷ rest) feeds quotes returns =
    let feed = neither (byte == 10) (has_byte 10 (next ∷ rest)) feeds in
    let quote = neither (byte == 34) (has_byte 34 (next ∷ rest)) quotes in
    let return = neither (byte == 13) (returns_within (next ∷ rest)) returns in
    (feed.0, quote.0, return.0, plain_from (next ∷ rest) feed.1 quote.1 return.1)

three : (a b c : Bool) → (a && not b && not c) ≡ true → (b ≡ false) × (c ≡ false)
three true false false h = (refl, refl)
three true false true h = absurd (cc)
three true true c h = absurd (cc)
three false b c h = absurd (cc)

-- what is passed on of a line is a line of such bytes
passed_plain : (line : List ℕ) (fit : Bool) → is_fit line ≡ fit → IsLine line
    → (shown : List ℕ) × (passed line ≡ shown ++ 10 ∷ []) × IsPlain shown
passed_plain line true fit none =
    let two = three (nat_le (length line) MOST_LINE) (has_byte 34 line) (returns_within line) fit in
    (line, rw fit refl, plain_from line none two.0 two.1)
passed_plain line false fit none = (63 ∷ [], rw fit refl, (refl, refl))

-- ---- a record

-- the state at the start of a field or within one
abbrev field_state : Bool → State
field_state true = state.StartField
field_state false = state.InField

-- the state after a line's end, and what of the end is left: its line feed, after a carriage return
abbrev state_after : Bool → State
state_after true = state.AfterCr
state_after false = state.StartRecord

abbrev left_after : Bool → List ℕ
left_after true = 10 ∷ []
left_after false = []

-- the state that one byte leads to
abbrev after_step : State × Action → Record → List ℕ → ℕ → List ℕ → Option Read
after_step to fields field byte rest =
    cond (is_end to.1) (Some (fields_after to.1 fields field, to.0, rest))
    (next_record default_config to.0 (fields_after to.1 fields field) (field_after to.1 byte field) rest)

one_byte : (s : State) (fields : Record) (field : List ℕ) (byte : ℕ) (rest : List ℕ)
    → next_record default_config s fields field (byte ∷ rest) ≡ after_step (step default_config s byte) fields field byte rest
unfolding next_record
one_byte s fields field byte rest = refl

-- what a byte does that is no double quote and no comma
abbrev no_comma : Bool → Bool → State × Action
no_comma return feed = cond (return || feed) (cond return state.AfterCr state.StartRecord, action.EndRecord) (state.InField, action.Copy)

abbrev no_quote : ℕ → Bool → State × Action
no_quote byte comma = cond comma (state.StartField, action.EndField) (no_comma (byte == 13) (byte == 10))

within_field : (start : Bool) (byte : ℕ) → (byte == 34) ≡ false → step default_config (field_state start) byte ≡ no_quote byte (byte == 44)
within_field true byte quote = ap
    (λ (q : Bool). let to : State × Action = cond q (state.InQuoted, action.Skip) (no_quote byte (byte == 44)) in to) quote
within_field false byte quote = refl

at_comma : (start : Bool) (byte : ℕ) → (byte == 34) ≡ false → (byte == 44) ≡ true
    → step default_config (field_state start) byte ≡ (state.StartField, action.EndField)
at_comma start byte quote comma = within_field start byte quote ∙ ap (no_quote byte) comma

at_return : (start : Bool) (byte : ℕ) → (byte == 34) ≡ false → (byte == 44) ≡ false → (byte == 13) ≡ true
    → step default_config (field_state start) byte ≡ (state.AfterCr, action.EndRecord)
at_return start byte quote comma return = within_field start byte quote ∙ ap (no_quote byte) comma
    ∙ ap (λ (r : Bool). no_comma r (byte == 10)) return

at_other : (start : Bool) (byte : ℕ) → (byte == 34) ≡ false → (byte == 44) ≡ false → (byte == 13) ≡ false → (byte == 10) ≡ false
    → step default_config (field_state start) byte ≡ (state.InField, action.Copy)
at_other start byte quote comma return feed = within_field start byte quote ∙ ap (no_quote byte) comma
    ∙ ap (λ (r : Bool). no_comma r (byte == 10)) return ∙ ap (λ (f : Bool). no_comma false f) feed

-- what a byte does at a place at which a record may begin
abbrev at_start : ℕ → Bool → Bool → State × Action
at_start byte return feed = cond (return || feed) (state.StartRecord, action.Skip) (step default_config state.StartField byte)

-- a line ends its record, whatever the text after it is
abbrev EndsRecord : Bool → Record → List ℕ → List ℕ → Type 0
EndsRecord start fields field line = (whole : Record) × (return : Bool) × ((text : List ℕ)
    → next_record default_config (field_state start) fields field (line ++ 10 ∷ text)
    ≡ Some (whole, state_after return, left_after return ++ text))

ends_here : (start : Bool) (fields : Record) (field : List ℕ) → EndsRecord start fields field []
unfolding next_record
ends_here true fields field = (fields ++ field ∷ [], false, λ text. refl)
ends_here false fields field = (fields ++ field ∷ [], false, λ text. refl)

goes_on : (start : Bool) (fields : Record) (field : List ℕ) (byte : ℕ) (line : List ℕ) (comma return : Bool) → (byte == 34) ≡ false
    → (byte == 10) ≡ false → (byte == 44) ≡ comma → (byte == 13) ≡ return → (return ≡ true → line ≡ [])
    → ((q : Bool) (f : Record) (l : List ℕ) → EndsRecord q f l line) → EndsRecord start fields field (byte ∷ line)
goes_on start fields field byte line true return quote feed is_comma is_return last rest =
    let more = rest true (fields ++ field ∷ []) [] in (
      more.0,
      more.1,
      λ text.
          one_byte (field_state start) fields field byte (line ++ 10 ∷ text)
          ∙ ap (λ (to : State × Action). after_step to fields field byte (line ++ 10 ∷ text)) (at_comma start byte quote is_comma)
          ∙ more.2 text,
    )
goes_on start fields field byte line false true quote feed is_comma is_return last rest = (
  fields ++ field ∷ [],
  true,
  λ text.
      one_byte (field_state start) fields field byte (line ++ 10 ∷ text)
      ∙ ap (λ (to : State × Action). after_step to fields field byte (line ++ 10 ∷ text)) (at_return start byte quote is_comma is_return)
      ∙ ap (λ (l : List ℕ). let p : Option Read = Some (fields ++ field ∷ [], state.AfterCr, l ++ 10 ∷ text) in p) (last refl),
)
goes_on start fields field byte line false false quote feed is_comma is_return last rest =
    let more = rest false fields (field ++ byte ∷ []) in (
      more.0,
      more.1,
      λ text.
          one_byte (field_state start) fields field byte (line ++ 10 ∷ text)
          ∙ ap (λ (to : State × Action). after_step to fields field byte (line ++ 10 ∷ text))
          (at_other start byte quote is_comma is_return feed)
          ∙ more.2 text,
    )

line_ends : (start : Bool) (fields : Record) (field line : List ℕ) → IsPlain line → EndsRecord start fields field line
line_ends start fields field [] plain = ends_here start fields field
line_ends start fields field (byte ∷ []) plain =
    goes_on start fields field byte [] (byte == 44) (byte == 13) plain.1 plain.0 refl refl (λ _. refl) (λ q f l. ends_here q f l)
line_ends start fields field (byte ∷ next ∷ rest) plain =
    goes_on start fields field byte (next ∷ rest) (byte == 44) false plain.1 plain.0 refl plain.2 (λ e. absurd (cc))
    (λ q f l. line_ends q f l (next ∷ rest) plain.3)

-- ---- the records of a text

-- if the next record is the same, all are
same_records : (s other : State) (bytes text : List ℕ) (records : List Record)
    → next_record default_config s [] [] bytes ≡ next_record default_config other [] [] text
    → AreRecords default_config other text records → AreRecords default_config s bytes records
unfolding Reached
same_records s other bytes text [] same are =
    let none = are.3 in
    let end = rw (sym are.2.0, sym are.2.1) at none in
    (s, bytes, (refl, refl), same ∙ end)
same_records s other bytes text (fields ∷ records) same are =
    (are.0, are.1, (are.2.0, same ∙ are.2.1, are.2.2, are.2.3), are.3)

-- one record, and then those after it
first_then : (s after : State) (bytes rest : List ℕ) (fields : Record) (records : List Record)
    → next_record default_config s [] [] bytes ≡ Some (fields, after, rest) → AreRecords default_config after rest records
    → AreRecords default_config s bytes (fields ∷ records)
unfolding Reached
first_then s after bytes rest fields records is are = (are.0, are.1, ((fields, after, rest), is, refl, are.2), are.3)

-- a text of no bytes
none_left : AreRecords default_config state.StartRecord [] []
unfolding Reached next_record
none_left = (state.StartRecord, [], (refl, refl), refl)

-- the line feed after a carriage return is no record
after_end_of_line : (return : Bool) (text : List ℕ) (records : List Record) → AreRecords default_config state.StartRecord text records
    → AreRecords default_config (state_after return) (left_after return ++ text) records
unfolding next_record
after_end_of_line false text records are = are
after_end_of_line true text records are = same_records state.AfterCr state.StartRecord (10 ∷ text) text records refl are

-- nor is an empty line
at_feed : (text : List ℕ) → next_record default_config state.StartRecord [] [] (10 ∷ text)
    ≡ next_record default_config state.StartRecord [] [] text
unfolding next_record
at_feed text = refl

at_blank : (byte : ℕ) (text : List ℕ) → (byte == 13) ≡ true
    → next_record default_config state.StartRecord [] [] (byte ∷ 10 ∷ text) ≡ next_record default_config state.StartRecord [] [] text
at_blank byte text return =
    let skips : step default_config state.StartRecord byte ≡ (state.StartRecord, action.Skip) =
    ap (λ (r : Bool). at_start byte r (byte == 10)) return in
    one_byte state.StartRecord [] [] byte (10 ∷ text) ∙ ap (λ (to : State × Action). after_step to [] [] byte (10 ∷ text)) skips
    ∙ at_feed text

-- a byte that begins a record begins its first field
at_first : (byte : ℕ) (rest : List ℕ) → (byte == 13) ≡ false → (byte == 10) ≡ false
    → next_record default_config state.StartRecord [] [] (byte ∷ rest) ≡ next_record default_config state.StartField [] [] (byte ∷ rest)
at_first byte rest return feed =
    let same : step default_config state.StartRecord byte ≡ step default_config state.StartField byte =
    ap (λ (r : Bool). at_start byte r (byte == 10)) return ∙ ap (λ (f : Bool). at_start byte false f) feed in
    one_byte state.StartRecord [] [] byte rest ∙ ap (λ (to : State × Action). after_step to [] [] byte rest) same
    ∙ sym (one_byte state.StartField [] [] byte rest)

-- what a line adds to the records of the text after it
abbrev Adds : List ℕ → List ℕ → List Record → Type 0
Adds line text more = (one : List Record) × AreRecordsOf (line ++ 10 ∷ []) one × AreRecordsOf (line ++ 10 ∷ text) (one ++ more)
    × (length one ≤ 1)

adds_record : (byte : ℕ) (line text : List ℕ) (more : List Record) → (byte == 13) ≡ false → (byte == 10) ≡ false
    → EndsRecord true [] [] (byte ∷ line) → AreRecordsOf text more → Adds (byte ∷ line) text more
adds_record byte line text more return feed ends are = (
  ends.0 ∷ [],
  first_then state.StartRecord (state_after ends.1) (byte ∷ line ++ 10 ∷ []) (left_after ends.1 ++ []) ends.0 []
      (at_first byte (line ++ 10 ∷ []) return feed ∙ ends.2 []) (after_end_of_line ends.1 [] [] none_left),
  first_then state.StartRecord (state_after ends.1) (byte ∷ line ++ 10 ∷ text) (left_after ends.1 ++ text) ends.0 more
      (at_first byte (line ++ 10 ∷ text) return feed ∙ ends.2 text) (after_end_of_line ends.1 text more are),
  lit≤ tt,
)

adds_blank : (byte : ℕ) (text : List ℕ) (more : List Record) → (byte == 13) ≡ true → AreRecordsOf text more → Adds (byte ∷ []) text more
adds_blank byte text more return are = (
  [],
  same_records state.StartRecord state.StartRecord (byte ∷ 10 ∷ []) [] [] (at_blank byte [] return) none_left,
  same_records state.StartRecord state.StartRecord (byte ∷ 10 ∷ text) text more (at_blank byte text return) are,
  lit≤ tt,
)

adds_one : (byte : ℕ) (text : List ℕ) (more : List Record) (return : Bool) → (byte == 13) ≡ return → IsPlain (byte ∷ [])
    → AreRecordsOf text more → Adds (byte ∷ []) text more
adds_one byte text more true return plain are = adds_blank byte text more return are
adds_one byte text more false return plain are = adds_record byte [] text more return plain.0 (line_ends true [] [] (byte ∷ []) plain) are

adds : (line text : List ℕ) (more : List Record) → IsPlain line → AreRecordsOf text more → Adds line text more
adds [] text more plain are = (
  [],
  same_records state.StartRecord state.StartRecord (10 ∷ []) [] [] (at_feed []) none_left,
  same_records state.StartRecord state.StartRecord (10 ∷ text) text more (at_feed text) are,
  lit≤ tt,
)
adds (byte ∷ []) text more plain are = adds_one byte text more (byte == 13) refl plain are
adds (byte ∷ next ∷ rest) text more plain are =
    adds_record byte (next ∷ rest) text more plain.2 plain.0 (line_ends true [] [] (byte ∷ next ∷ rest) plain) are

pub read_alone : EachLineIsReadAlone
read_alone line rest more none are =
    let shown = passed_plain line (is_fit line) refl none in
    let added = adds shown.0 (whole_lines rest) more shown.2 are in
    let all : whole_lines (line ++ 10 ∷ rest) ≡ shown.0 ++ 10 ∷ whole_lines rest =
    whole_line [] line rest none ∙ ap (λ (t : List ℕ). t ++ whole_lines rest) shown.1
    ∙ append_assoc shown.0 (10 ∷ []) (whole_lines rest) in (
      added.0,
      added.3,
      subst (λ (t : List ℕ). AreRecordsOf t added.0) (sym shown.1) added.1,
      subst (λ (t : List ℕ). AreRecordsOf t (added.0 ++ more)) (sym all) added.2,
    )

-- the replacement of a refused line
pub refused_alone : AreRecordsOf refused_line (((63 ∷ []) ∷ []) ∷ [])
unfolding Reached next_record
refused_alone = first_then state.StartRecord state.StartRecord refused_line [] ((63 ∷ []) ∷ []) [] refl none_left
