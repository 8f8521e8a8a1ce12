-- A text has exactly one list of records.
use Rattle.std.proofs.Common.{arith, ◌≡◌, ◌+◌, ◌<◌, ◌⊎◌, inl, inr, ℕ, zero, suc, Bool, true, false, cond, ◌==◌, ◌&&◌, List, [], ◌∷◌, ◌++◌}
use Rattle.std.proofs.Common.{Option, Some, None, refl, sym, ap, subst, ◌∙◌, length}
use Rattle.csv.specs.Machine.{Read, after_end, ends_at_end, ends_with, field_after, fields_after, in_field, is_byte, is_end, next_record}
use Rattle.csv.specs.Machine.{start_field, start_record, step}
use Rattle.csv.specs.Reading.{AreRecords, Reached, default_config, records, records_from, records_next, strip_bom}
use Rattle.csv.specs.declared.parser.Action.{Action}
use Rattle.csv.specs.declared.parser.Action.TheVariants as action
use Rattle.csv.specs.declared.parser.Config.{Config}
use Rattle.csv.specs.declared.parser.State.{State}
use Rattle.csv.specs.declared.parser.State.TheVariants as state
use Rattle.csv.specs.declared.parser.Terminator.{Terminator}
use Rattle.csv.specs.declared.parser.Terminator.TheVariants as term
use Rattle.nms_lines.specs.Layout.{Record}
use Rattle.nms_lines.specs.TextLaws.{HasOneList}

-- ---- after the end of a record, the end of the text ends no other

abbrev EndsNone : State × Action → Type 0
EndsNone to = is_end to.1 ≡ true → ends_at_end to.0 ≡ false

one_of : (first : Bool) (x y : State × Action) → EndsNone x → EndsNone y → EndsNone (cond first x y)
one_of true x y here there = here
one_of false x y here there = there

after_end_none : (end : Terminator) (c : ℕ) → ends_at_end (after_end end c) ≡ false
after_end_none term.CRLF c = either (c == 13)
  where
    either : (cr : Bool) → ends_at_end (cond cr state.AfterCr state.StartRecord) ≡ false
    either true = refl
    either false = refl
after_end_none (term.Any t) c = refl

in_field_none : (cfg : Config) (c : ℕ) → EndsNone (in_field cfg c)
in_field_none cfg c =
    one_of (c == cfg.delimiter) (state.StartField, action.EndField)
    (cond (ends_with cfg.terminator c) (after_end cfg.terminator c, action.EndRecord) (state.InField, action.Copy))
    (λ ends. absurd (cc))
    (one_of (ends_with cfg.terminator c) (after_end cfg.terminator c, action.EndRecord) (state.InField, action.Copy)
    (λ ends. after_end_none cfg.terminator c) (λ ends. absurd (cc)))

start_field_none : (cfg : Config) (c : ℕ) → EndsNone (start_field cfg c)
start_field_none cfg c = one_of (cfg.quoting && (c == cfg.quote)) (state.InQuoted, action.Skip) (in_field cfg c) (λ ends. absurd (cc))
    (in_field_none cfg c)

start_record_none : (cfg : Config) (c : ℕ) → EndsNone (start_record cfg c)
start_record_none cfg c =
    one_of (ends_with cfg.terminator c) (state.StartRecord, action.Skip)
    (cond (is_byte cfg.comment c) (state.InComment, action.Skip) (start_field cfg c))
    (λ ends. absurd (cc))
    (one_of (is_byte cfg.comment c) (state.InComment, action.Skip) (start_field cfg c) (λ ends. absurd (cc)) (start_field_none cfg c))

step_none : (cfg : Config) (s : State) (c : ℕ) → EndsNone (step cfg s c)
step_none cfg state.StartRecord c = start_record_none cfg c
step_none cfg state.StartField c = start_field_none cfg c
step_none cfg state.InField c = in_field_none cfg c
step_none cfg state.InQuoted c =
    one_of (cfg.quoting && (c == cfg.quote)) (state.AfterQuote, action.Skip)
    (cond (cfg.quoting && is_byte cfg.escape c) (state.InEscape, action.Skip) (state.InQuoted, action.Copy))
    (λ ends. absurd (cc))
    (one_of (cfg.quoting && is_byte cfg.escape c) (state.InEscape, action.Skip) (state.InQuoted, action.Copy) (λ ends. absurd (cc))
    (λ ends. absurd (cc)))
step_none cfg state.InEscape c = λ ends. absurd (cc)
step_none cfg state.AfterQuote c =
    one_of (cfg.quoting && cfg.double_quote && (c == cfg.quote)) (state.InQuoted, action.Copy) (in_field cfg c) (λ ends. absurd (cc))
    (in_field_none cfg c)
step_none cfg state.InComment c = one_of (c == 10) (state.StartRecord, action.Skip) (
  state.InComment,
  action.Skip,
) (λ ends. absurd (cc)) (λ ends. absurd (cc))
step_none cfg state.AfterCr c = one_of (c == 10) (
  state.StartRecord,
  action.Skip,
) (start_record cfg c) (λ ends. absurd (cc)) (start_record_none cfg c)

-- ---- each record makes what is left shorter

-- what is left: the bytes, and one more if the end of the text ends a record
abbrev size : State → List ℕ → ℕ
size s bytes = length bytes + cond (ends_at_end s) 1 0

most_one : (b : Bool) → cond b 1 0 < 2
most_one true = omega arith
most_one false = omega arith

found_first : {X : Type 0} (b : Bool) (x p : X) → cond b (Some x) None ≡ Some p → (b ≡ true) × (x ≡ p)
found_first true x p is = (refl, cc)
found_first false x p is = absurd (cc)

found_either : {X : Type 0} (b : Bool) (x p : X) (more : Option X) → cond b (Some x) more ≡ Some p
    → ((b ≡ true) × (x ≡ p)) ⊎ (more ≡ Some p)
found_either true x p more is = inl (refl, cc)
found_either false x p more is = inr is

shorter : (cfg : Config) (s : State) (fields : Record) (field bytes : List ℕ) (p : Read) → next_record cfg s fields field bytes ≡ Some p
    → size p.1 p.2 < size s bytes
unfolding next_record
shorter cfg s fields field [] p is =
    let found = found_first (ends_at_end s) (fields ++ (field ∷ []), state.StartRecord, []) p is in
    subst (λ (q : Read). size q.1 q.2 < size s []) found.1 (rw found.0 (omega arith))
shorter cfg s fields field (c ∷ rest) p is =
    let to : State × Action = step cfg s c in
    let more : Option Read = next_record cfg to.0 (fields_after to.1 fields field) (field_after to.1 c field) rest in
    elim (found_either (is_end to.1) (fields_after to.1 fields field, to.0, rest) p more is) [
      | inl here ↦
          let none : ends_at_end to.0 ≡ false = step_none cfg s c here.0 in
          subst (λ (q : Read). size q.1 q.2 < size s (c ∷ rest)) here.1 (rw none (omega arith))
      | inr later ↦
          let small : size p.1 p.2 < size to.0 rest =
          shorter cfg to.0 (fields_after to.1 fields field) (field_after to.1 c field) rest p later in
          omega (arith, small, most_one (ends_at_end to.0))
    ]

-- ---- there is a list

all_from : (cfg : Config) (n : ℕ) (s : State) (bytes : List ℕ) (next : Option Read) → next_record cfg s [] [] bytes ≡ next
    → ((p : Read) → next ≡ Some p → AreRecords cfg p.1 p.2 (records_from cfg n p.1 p.2))
    → AreRecords cfg s bytes (records_next (records_from cfg n) next)
unfolding Reached
all_from cfg n s bytes None none rest = (s, bytes, (refl, refl), none)
all_from cfg n s bytes (Some p) is rest = let behind = rest p refl in (behind.0, behind.1, (p, is, refl, behind.2), behind.3)

all_read : (cfg : Config) (n : ℕ) (s : State) (bytes : List ℕ) → size s bytes < n → AreRecords cfg s bytes (records_from cfg n s bytes)
unfolding records_from
all_read cfg zero s bytes few = absurd (omega arith)
all_read cfg (suc n) s bytes few =
    all_from cfg n s bytes (next_record cfg s [] [] bytes) refl
    (λ p is. all_read cfg n p.1 p.2 (let less = shorter cfg s [] [] bytes p is in omega (arith, less, few)))

-- ---- and no other

same_list : (cfg : Config) (s : State) (bytes : List ℕ) (some others : List Record) → AreRecords cfg s bytes some
    → AreRecords cfg s bytes others → some ≡ others
unfolding Reached
same_list cfg s bytes [] [] a b = refl
same_list cfg s bytes [] (other ∷ others) a b =
    let none = a.3 in
    let end = rw (sym a.2.0, sym a.2.1) at none in
    let nothing : ⊥ = cc (sym end ∙ b.2.1) in
    absurd nothing
same_list cfg s bytes (one ∷ some) [] a b =
    let none = b.3 in
    let end = rw (sym b.2.0, sym b.2.1) at none in
    let nothing : ⊥ = cc (sym end ∙ a.2.1) in
    absurd nothing
same_list cfg s bytes (one ∷ some) (other ∷ others) a b =
    let same : b.2.0 ≡ a.2.0 = cc (sym b.2.1 ∙ a.2.1) in
    let state_is : b.2.0.1 ≡ a.2.0.1 = ap (λ (read : Read). read.1) same in
    let rest_is : b.2.0.2 ≡ a.2.0.2 = ap (λ (read : Read). read.2) same in
    let first : one ≡ other = a.2.2 ∙ ap (λ (read : Read). read.0) (sym same) ∙ sym b.2.2 in
    let goes = b.2.3 in
    let behind : some ≡ others = same_list cfg a.2.0.1 a.2.0.2 some others (a.0, a.1, a.2.3, a.3)
    (b.0, b.1, rw (state_is, rest_is) at goes, b.3) in
    cc (first, behind)

pub one_list : (bytes : List ℕ) → HasOneList bytes
one_list bytes =
    let text : List ℕ = strip_bom bytes in
    let all = all_read default_config (length text + 1) state.StartRecord text (omega arith) in (
      records default_config text,
      all,
      λ others are. same_list default_config state.StartRecord text others (records default_config text) are all,
    )
