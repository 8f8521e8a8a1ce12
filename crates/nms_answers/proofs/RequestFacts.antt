-- What a request says, and the answer to it.
use Rattle.std.proofs.Common.{ℕ, ◌≡◌, ◌++◌, true, false, List, [], ◌∷◌, Option, Some, None, Result, Ok, Err, refl, sym, subst}
use Rattle.std.specs.Option.{ok_or}
use Rattle.std.specs.Prelude.{IfOk, length, not}
use Rattle.nms_quote.specs.Roster.{Listing}
use Rattle.nms_fees.specs.Settings.{Settings}
use Rattle.nms_lines.specs.Faults as line_faults
use Rattle.nms_lines.specs.Faults.{◌>>=◌, at, of_record, refuse_if, unplaced}
use Rattle.nms_lines.specs.Fields.{desk_at, flag_in, price_at, self_help_in, shares_at, side_at, symbol_at}
use Rattle.nms_lines.specs.Layout.{Record, field, is_count, kind_named}
use Rattle.nms_lines.specs.Lines.{best_reading, kind_reading, placed_reading, sweep_reading, through_reading}
use Rattle.nms_lines.specs.Sources.{brought, desks_of}
use Rattle.nms_lines.specs.Text.{text_of}
use Rattle.nms_lines.specs.declared.line.Kind.{Kind}
use Rattle.nms_lines.specs.declared.line.Kind.TheVariants as kind
use Rattle.nms_lines.specs.declared.line.Line.{Line}
use Rattle.nms_lines.specs.declared.line.Reading.{Reading}
use Rattle.nms_lines.specs.declared.line.Reading.TheVariants as source
use Rattle.nms_lines.specs.declared.line_fault.LineFault.{LineFault}
use Rattle.nms_lines.specs.declared.line_fault.LineFault.TheVariants as fault
use Rattle.nms_lines.specs.declared.line_fault.PlacedFault.{PlacedFault}
use Rattle.nms_scripts.specs.Script.{script_reading}
use Rattle.nms_text.specs.Answers.{refusal}
use Rattle.nms_versions.specs.Taped.{Knowing}
use Rattle.nms_answers.specs.Requests.{Answered, AnswersLine, is_asked, is_look, request_reading}
use Rattle.nms_answers.specs.Told.{AppendsOn}

-- ---- a request that was read asks for a look

bound : {A B : Type 0} (read : Result A PlacedFault) (then : A → Result B PlacedFault) (x : B) → (read >>= then) ≡ Ok x
    → (a : A) × (read ≡ Ok a) × (then a ≡ Ok x)
bound (Ok a) then x is = (a, refl, is)
bound (Err why) then x is = absurd (cc)

-- what is read is read with any place of a fault
read_so : {A : Type 0} (read : Result A PlacedFault) (x : A) → unplaced read ≡ Ok x → read ≡ Ok x
read_so (Ok a) x is = cc
read_so (Err placed) x is = absurd (cc)

looks_like : (one other : Line) → (let r : Result Line PlacedFault = Ok one in r) ≡ Ok other → is_look one ≡ true → is_look other ≡ true
looks_like one other same look = let is : one ≡ other = cc in subst (λ (l : Line). is_look l ≡ true) is look

best_looks : (roster : Listing) (from : Reading) (fields : Record) (said : Line) → best_reading roster from fields ≡ Ok said
    → is_look said ≡ true
best_looks roster from fields said is =
    let symbol = bound (symbol_at roster fields 2) _ said is in
    let desk = bound (desk_at (desks_of from) fields 1) _ said symbol.2 in
    looks_like _ said desk.2 refl

through_looks : (roster : Listing) (from : Reading) (fields : Record) (said : Line) → through_reading roster from fields ≡ Ok said
    → is_look said ≡ true
through_looks roster from fields said is =
    let symbol = bound (symbol_at roster fields 2) _ said is in
    let price = bound (price_at fields 3) _ said symbol.2 in
    let desk = bound (desk_at (desks_of from) fields 1) _ said price.2 in
    looks_like _ said desk.2 refl

sweep_looks : (roster : Listing) (from : Reading) (fields : Record) (said : Line) → sweep_reading roster from fields ≡ Ok said
    → is_look said ≡ true
sweep_looks roster from fields said is =
    let self_help = bound (self_help_in roster fields) _ said is in
    let symbol = bound (symbol_at roster fields 3) _ said self_help.2 in
    let side = bound (side_at fields 2) _ said symbol.2 in
    let manual = bound (flag_in fields) _ said side.2 in
    let limit = bound (price_at fields 5) _ said manual.2 in
    let shares = bound (shares_at fields 4) _ said limit.2 in
    let desk = bound (desk_at (desks_of from) fields 1) _ said shares.2 in
    looks_like _ said desk.2 refl

kind_looks : (roster : Listing) (from : Reading) (fields : Record) (k : Kind) (said : Line) → is_asked (Some k) ≡ true
    → kind_reading roster from fields k ≡ Ok said → is_look said ≡ true
kind_looks roster from fields kind.Quote said asked is = absurd (cc)
kind_looks roster from fields kind.State said asked is = absurd (cc)
kind_looks roster from fields kind.Withdraw said asked is = absurd (cc)
kind_looks roster from fields kind.Lot said asked is = absurd (cc)
kind_looks roster from fields kind.TakeOne said asked is = absurd (cc)
kind_looks roster from fields kind.TakeAll said asked is = absurd (cc)
kind_looks roster from fields kind.Publish said asked is = absurd (cc)
kind_looks roster from fields kind.Tell said asked is = absurd (cc)
kind_looks roster from fields kind.Best said asked is = best_looks roster from fields said is
kind_looks roster from fields kind.Through said asked is = through_looks roster from fields said is
kind_looks roster from fields kind.Sweep said asked is = sweep_looks roster from fields said is

named_looks : (settings : Settings) (fields : Record) (named : Option Kind) (said : Line) → is_asked named ≡ true
    → (ok_or (brought (source.Script settings.desks) named) (at fault.UnknownKind 0) >>= (λ k.
    refuse_if (not (is_count k (length fields))) (of_record fault.FieldCount) >>= (λ counted.
    kind_reading settings.roster (source.Script settings.desks) fields k))) ≡ Ok said
    → is_look said ≡ true
named_looks settings fields None said asked is = absurd (cc)
named_looks settings fields (Some k) said asked is =
    let counted = bound (refuse_if (not (is_count k (length fields))) (of_record fault.FieldCount)) _ said is in
    kind_looks settings.roster (source.Script settings.desks) fields k said asked counted.2

-- the record read for a request whose kind asks for a look
pub looks_read : (settings : Settings) (fields : Record) (read : Result Line LineFault) → is_asked (kind_named (field fields 0)) ≡ true
    → read ≡ script_reading settings fields → IfOk read (λ said. is_look said ≡ true)
looks_read settings fields (Ok said) asked is =
    named_looks settings fields (kind_named (field fields 0)) said asked
    (read_so (placed_reading settings.roster (source.Script settings.desks) fields) said (sym is))
looks_read settings fields (Err why) asked is = tt

-- ---- the answer

-- a line was answered on one version
pub answered_line : (settings : Settings) (number : ℕ) (fields : Record) (said : Line) (old new : Knowing) (before after : List ℕ)
    → request_reading settings fields ≡ Ok said → AppendsOn (AnswersLine settings said) old new before after
    → Answered settings number fields old new before after false
answered_line settings number fields said old new before after is told =
    (Some told.0, told.1, told.2, rw is told.3, told.4, refl)

-- a request was refused
pub answered_refused : (settings : Settings) (number : ℕ) (fields : Record) (why : LineFault) (old new : Knowing) (before after : List ℕ)
    → request_reading settings fields ≡ Err why → new ≡ old
    → after ≡ before ++ text_of (refusal number (line_faults.code_of why) ∷ [])
    → Answered settings number fields old new before after true
answered_refused settings number fields why old new before after is same text =
    (None, refusal number (line_faults.code_of why) ∷ [], same, rw is refl, text, refl)
