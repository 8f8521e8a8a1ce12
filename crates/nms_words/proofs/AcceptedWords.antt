-- Words in which the parser finds no fault ask for something.
use Rattle.std.proofs.Common.{◌≡◌, ◌||◌, ◌&&◌, Bool, true, false, not, List, [], ◌∷◌, Option, Some, None, is_some, option_map}
use Rattle.std.proofs.Common.{option_and_then, refl, cond}
use Rattle.std.specs.List.{list_all, list_any}
use Rattle.std.proofs.lemmas.Bool.{and_parts}
use Rattle.std.specs.Option.{option_map_or}
use Rattle.std.specs.Str.{bytes_eq}
use Rattle.clap.specs.Faults.{check_fault, defaults_fault, entered_fault, level_fault, settle_fault, walk_fault}
use Rattle.clap.specs.Kinds.{check_kinds, or_else}
use Rattle.clap.specs.Simple.{entered, label_of, names_of}
use Rattle.clap.specs.Takes.{is_given}
use Rattle.clap.specs.Walk.{answers_to, finished, nothing_held, rows_after, settled, stop_after, walk, walk_from}
use Rattle.clap.specs.Words.{Kinds, Row, Shape, Text, built, first_of}
use Rattle.nms_words.specs.CommandLine.{asked_by, asked_in, asked_of, faults_in, firsts_of, own_in, own_names, tool}
use Rattle.nms_words.proofs.OwnRows.{Filled, given_first}
use Rattle.nms_words.proofs.OwnValues.{is_flag_or_own, rows_filled}
use Rattle.nms_words.proofs.Leaves.{leaf}
use Rattle.nms_words.specs.declared.subcommand.Sub.{Sub}
use Rattle.nms_words.specs.declared.subcommand.Sub.TheVariants.{Script, Report, Plan, Check, Live}

else_parts : (a b : Kinds) → or_else a b ≡ [] → (a ≡ []) × (b ≡ [])
else_parts [] b none = (refl, none)
else_parts (k ∷ ks) b none = cc

-- a level without fault has each argument that it requires
level_checked : (s : Shape) (words : List Text) → level_fault s [] nothing_held words false [] ≡ []
    → check_fault s (rows_after s.rules [] words) false ≡ []
level_checked s words none =
    let end = (walk s.rules [] nothing_held words).held in
    let last = check_fault s (finished s.rules end) false in
    let defaults = defaults_fault (settled s.rules end).rows s.rules in
    let settles = settle_fault s.rules s.args_override_self end in
    let after_walk = (else_parts (walk_fault s [] (walk_from nothing_held) words) (or_else settles (or_else defaults last)) none).1 in
    (else_parts defaults last (else_parts settles (or_else defaults last) after_walk).1).1

-- ---- a subcommand

abbrev is_own : Sub → Text → Bool
is_own sub id = list_any (bytes_eq id) (own_names sub)

-- if nothing that is required is missed, each of it is given
none_missing : (rows : List Row) (ids : List Text) → check_kinds false false (list_any (λ id. not (is_given id rows)) ids) ≡ []
    → list_all (λ id. is_given id rows) ids ≡ true
none_missing rows [] e = refl
none_missing rows (id ∷ ids) e = go (is_given id rows) (none_missing rows ids) e
  where
    go : (given : Bool) → (check_kinds false false (list_any (λ i. not (is_given i rows)) ids) ≡ []
        → list_all (λ i. is_given i rows) ids ≡ true)
        → check_kinds false false (not given || list_any (λ i. not (is_given i rows)) ids) ≡ []
        → (given && list_all (λ i. is_given i rows) ids) ≡ true
    go true rest none = rest none
    go false rest none = cc

one_more : (value : Option Text) (values : Option (List Text)) → is_some value ≡ true → is_some values ≡ true
    → is_some (option_and_then (λ v. option_map (λ vs. v ∷ vs) values) value) ≡ true
one_more (Some v) (Some vs) e f = refl
one_more (Some v) None e f = cc
one_more None values e f = cc

-- own words that are given have first values
firsts_given : (own : Text → Bool) (rows : List Row) (ids : List Text) → list_all own ids ≡ true → Filled own rows
    → list_all (λ id. is_given id rows) ids ≡ true
    → is_some (firsts_of rows ids) ≡ true
firsts_given own rows [] are filled given = refl
firsts_given own rows (id ∷ ids) are filled given =
    let named = and_parts (own id) (list_all own ids) are in
    let met = and_parts (is_given id rows) (list_all (λ i. is_given i rows) ids) given in
    one_more (first_of id rows) (firsts_of rows ids) (given_first own id rows named.0 filled met.0)
    (firsts_given own rows ids named.1 filled met.1)

mapped : {A B : Type 0} (f : A → B) (found : Option A) → is_some found ≡ true → is_some (option_map f found) ≡ true
mapped f None some = cc
mapped f (Some x) some = refl

sub_asks : (sub : Sub) (words : List Text) → list_all (is_own sub) (own_names sub) ≡ true
    → list_all (is_flag_or_own (is_own sub)) (leaf sub).rules ≡ true
    → check_kinds false false (list_any (λ id. not (is_given id (rows_after (leaf sub).rules [] words))) (own_names sub)) ≡ []
    → is_some (asked_in (rows_after (leaf sub).rules [] words) sub) ≡ true
sub_asks sub words are flags checked =
    let rows = rows_after (leaf sub).rules [] words in
    mapped _ (own_in rows sub)
    (mapped _ (firsts_of rows (own_names sub))
    (firsts_given (is_own sub) rows (own_names sub) are (rows_filled (is_own sub) (leaf sub).rules flags [] words)
    (none_missing rows (own_names sub) checked)))

-- ---- all arguments together

entered_asks : (stop : Option (Text × List Text)) → entered_fault (built tool) stop ≡ []
    → is_some (asked_of (entered (built tool) stop)) ≡ true
entered_asks None none = refl
entered_asks (Some (name, rest)) none =
    go (answers_to name (label_of (leaf Script))) (answers_to name (label_of (leaf Report))) (answers_to name (label_of (leaf Plan)))
    (answers_to name (label_of (leaf Check))) (answers_to name (label_of (leaf Live))) none
  where
    go : (script report plan check live : Bool)
        → option_map_or (λ s. level_fault s [] nothing_held rest false [])
        (cond script (Some (leaf Script)) (cond report (Some (leaf Report))
        (cond plan (Some (leaf Plan)) (cond check (Some (leaf Check)) (cond live (Some (leaf Live)) None))))) [] ≡ []
        → is_some (asked_of (option_map (λ s. (s.name, rows_after s.rules [] rest))
        (cond script (Some (leaf Script)) (cond report (Some (leaf Report))
        (cond plan (Some (leaf Plan)) (cond check (Some (leaf Check)) (cond live (Some (leaf Live)) None))))))) ≡ true
    go true report plan check live e = refl
    go false true plan check live e = sub_asks Report rest refl refl (level_checked (leaf Report) rest e)
    go false false true check live e = sub_asks Plan rest refl refl (level_checked (leaf Plan) rest e)
    go false false false true live e = sub_asks Check rest refl refl (level_checked (leaf Check) rest e)
    go false false false false true e = sub_asks Live rest refl refl (level_checked (leaf Live) rest e)
    go false false false false false e = refl

pub accepted_asks : (words : List Text) → faults_in words ≡ [] → is_some (asked_by words) ≡ true
accepted_asks words none =
    let top = (built tool).top in
    let names = names_of (built tool) in
    let stop = stop_after top.rules names words in
    let end = (walk top.rules names nothing_held words).held in
    let below = entered_fault (built tool) stop in
    let after = or_else (settle_fault top.rules top.args_override_self end)
    (or_else (defaults_fault (settled top.rules end).rows top.rules)
    (check_fault top (finished top.rules end) (is_some (entered (built tool) stop)))) in
    let after_walk = (else_parts (walk_fault top names (walk_from nothing_held) words) (or_else below after) none).1 in
    entered_asks stop (else_parts below after after_walk).0
