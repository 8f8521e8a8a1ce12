-- The parser's walk over the plain words of a subcommand and its options.
use Rattle.std.proofs.Common.{◌≡◌, ◌∙◌, ◌==◌, ◌&&◌, ◌++◌, ℕ, Bool, true, false, not, List, [], ◌∷◌, Option, Some, None, find, fold, codes}
use Rattle.std.proofs.Common.{refl, sym, subst, ap, cond}
use Rattle.std.specs.List.{list_all}
use Rattle.std.specs.Option.{option_map_or}
use Rattle.std.proofs.lemmas.Bool.{and_parts, not-true}
use Rattle.clap.specs.Walk.{Held, Rule, Text, Walk, arg_by_id, arg_by_index, arg_by_long, finished, idle, is_multiple, most_values}
use Rattle.clap.specs.Walk.{nothing_held, option, option_word, pushed, reacted, rows_after, settled, takes_values, to_positional, value}
use Rattle.clap.specs.Walk.{walk, walked}
use Rattle.clap.specs.Words.{Shape}
use Rattle.clap.specs.Takes.{default_passes, is_valid, level_passes, react_passes, settle_passes, step_passes, walk_passes}
use Rattle.clap.proofs.OnLiterals.{clap_on_literals}
use Rattle.nms_words.specs.PlainCall.{Choice, choices_words, is_plain_choice, is_plain_word, manual_on, option_of, self_help_of, setup_to}
use Rattle.nms_words.specs.declared.option_word.OptionWord.{OptionWord}
use Rattle.nms_words.specs.declared.option_word.OptionWord.TheVariants.{Setup, Manual, SelfHelp}

-- when nothing waits for a value, with what is held and the place of the next positional
abbrev pub At : Type 0
At = Held × ℕ

abbrev pub at_word : At → Walk
at_word at = record { held = at.0; waiting = idle; position = at.1; is_trailing = false; stopped = None }

-- when an option waits for its value
abbrev at_value : Text → At → Walk
at_value id at = record { held = at.0; waiting = option id; position = at.1; is_trailing = false; stopped = None }

-- ---- a plain word

-- the walk after one that goes to a positional
abbrev pub word_taken : List Rule → At → Text → Walk
word_taken rules at word = to_positional rules (arg_by_index rules at.1) word (at_word at) at.0

-- the walk after one that is an option's value
abbrev value_taken : List Rule → Text → At → Text → Walk
value_taken rules id at word =
    let met = option_word (arg_by_id rules id) id word at.0 in
    record { held = met.0; waiting = met.1; position = at.1; is_trailing = false; stopped = None }

word_walked : (rules : List Rule) (at : At) (word : Text) → is_plain_word word ≡ true
    → walked rules [] (at_word at) word ≡ word_taken rules at word
unfolding walked
word_walked rules at [] plain = cc
word_walked rules at (x ∷ xs) plain = let other = not-true (x == 45) plain in rw (other, other) refl

value_walked : (rules : List Rule) (id : Text) (at : At) (word : Text) → is_plain_word word ≡ true
    → walked rules [] (at_value id at) word ≡ value_taken rules id at word
unfolding walked
value_walked rules id at [] plain = cc
value_walked rules id at (x ∷ xs) plain = let other = not-true (x == 45) plain in rw (other, other) refl

word_passes : (s : Shape) (at : At) (word : Text) (rest : List Text) → is_plain_word word ≡ true
    → walk_passes s [] (at_word at) (word ∷ rest) ≡ (step_passes s at.1 at.0 value && walk_passes s [] (word_taken s.rules at word) rest)
unfolding walk_passes
word_passes s at [] rest plain = cc
word_passes s at (x ∷ xs) rest plain = let other = not-true (x == 45) plain in
    rw (word_walked s.rules at (x ∷ xs) plain) (rw (other, other) refl)

value_passes : (s : Shape) (id : Text) (at : At) (word : Text) (rest : List Text) → is_plain_word word ≡ true
    → walk_passes s [] (at_value id at) (word ∷ rest) ≡ walk_passes s [] (value_taken s.rules id at word) rest
unfolding walk_passes
value_passes s id at [] rest plain = cc
value_passes s id at (x ∷ xs) rest plain = let other = not-true (x == 45) plain in
    rw (value_walked s.rules id at (x ∷ xs) plain) (rw (other, other) refl)

-- ---- the own words

-- the argument takes one value, and the arguments after it are read as before
abbrev pub is_single : Rule → Bool
is_single a = not (is_multiple a) && not a.trailing_var_arg

found_passes : {X : Type 0} (p q : X → Bool) (xs : List X) → list_all q xs ≡ true → (x : X) → find p xs ≡ Some x → q x ≡ true
found_passes p q [] all x found = cc
found_passes {X} p q (y ∷ ys) all x found =
    let both = and_parts (q y) (list_all q ys) all in
    go (p y) both.0 (found_passes p q ys both.1 x) found
  where
    go : (b : Bool) → q y ≡ true → (find p ys ≡ Some x → q x ≡ true) → cond b (Some y) (find p ys) ≡ Some x → q x ≡ true
    go true here later e = let same : y ≡ x = cc in ap q (sym same) ∙ here
    go false here later e = later e

abbrev pub word_at : List Rule → At → Text → At
word_at rules at word = ((word_taken rules at word).held, (word_taken rules at word).position)

word_next : (rules : List Rule) (at : At) (word : Text) → list_all is_single rules ≡ true
    → word_taken rules at word ≡ at_word (word_at rules at word)
word_next rules at word single = go (arg_by_index rules at.1) (found_passes _ is_single rules single)
  where
    go : (met : Option Rule) → ((a : Rule) → met ≡ Some a → is_single a ≡ true)
        → to_positional rules met word (at_word at) at.0
        ≡ at_word ((to_positional rules met word (at_word at) at.0).held, (to_positional rules met word (at_word at) at.0).position)
    go None passes = refl
    go (Some a) passes =
        let both = and_parts (not (is_multiple a)) (not a.trailing_var_arg) (passes a refl) in
        rw (not-true (is_multiple a) both.0, not-true a.trailing_var_arg both.1) refl

-- after each of the arguments
abbrev pub own_taken : List Rule → At → List Text → At
own_taken rules at [] = at
own_taken rules at (word ∷ rest) = own_taken rules (word_at rules at word) rest

abbrev pub own_passes : Shape → At → List Text → Bool
own_passes s at [] = true
own_passes s at (word ∷ rest) = step_passes s at.1 at.0 value && own_passes s (word_at s.rules at word) rest

own_walked : (rules : List Rule) (at : At) (own rest : List Text) → list_all is_single rules ≡ true → list_all is_plain_word own ≡ true
    → fold (walked rules []) (at_word at) (own ++ rest) ≡ fold (walked rules []) (at_word (own_taken rules at own)) rest
own_walked rules at [] rest single plain = refl
own_walked rules at (word ∷ own) rest single plain =
    let both = and_parts (is_plain_word word) (list_all is_plain_word own) plain in
    ap (λ (w : Walk). fold (walked rules []) w (own ++ rest)) (word_walked rules at word both.0 ∙ word_next rules at word single)
    ∙ own_walked rules (word_at rules at word) own rest single both.1

own_walk_passes : (s : Shape) (at : At) (own rest : List Text) → list_all is_single s.rules ≡ true → list_all is_plain_word own ≡ true
    → own_passes s at own ≡ true → walk_passes s [] (at_word (own_taken s.rules at own)) rest ≡ true
    → walk_passes s [] (at_word at) (own ++ rest) ≡ true
own_walk_passes s at [] rest single plain passes last = last
own_walk_passes s at (word ∷ own) rest single plain passes last =
    let both = and_parts (is_plain_word word) (list_all is_plain_word own) plain in
    let steps = and_parts (step_passes s at.1 at.0 value) (own_passes s (word_at s.rules at word) own) passes in
    let rest_passes = own_walk_passes s (word_at s.rules at word) own rest single both.1 steps.1 last in
    word_passes s at word (own ++ rest) both.0 ∙ rw (steps.0, word_next s.rules at word single) rest_passes

-- ---- an option with a value

-- the rules have the option of that name, which takes one value
pub record HasValued (rules : List Rule) (name : Text) : Type 0 where
  pub rule : Rule
  pub by_long : arg_by_long rules name ≡ Some rule
  pub by_id : arg_by_id rules name ≡ Some rule
  pub id : rule.id ≡ name
  pub takes : takes_values rule ≡ true
  pub one : most_values rule ≡ 1

abbrev pub valued_met : List Rule → Text → At → At
valued_met rules name at = (record (settled rules at.0) { pending = Some (name, []) }, at.1)

abbrev pub valued_taken : List Rule → Text → At → Text → At
valued_taken rules name at text = (pushed name text (valued_met rules name at).0, at.1)

-- the word leads the walk to the state in which its option waits for the value
abbrev Leads : Text → Text → Type 0
Leads word name = (rules : List Rule) (at : At) → HasValued rules name
    → walked rules [] (at_word at) word ≡ at_value name (valued_met rules name at)

-- and its tests are those of what was held before
abbrev LeadsOn : Text → Text → Type 0
LeadsOn word name = (s : Shape) (at : At) (rest : List Text) → HasValued s.rules name
    → settle_passes s.rules s.args_override_self at.0 ≡ true
    → walk_passes s [] (at_value name (valued_met s.rules name at)) rest ≡ true → walk_passes s [] (at_word at) (word ∷ rest) ≡ true

setup_walked : Leads (codes "--setup") (codes "setup")
unfolding clap_on_literals
setup_walked rules at has = rw (has.by_long, has.takes, has.id) refl

self_help_walked : Leads (codes "--self-help") (codes "self-help")
unfolding clap_on_literals
self_help_walked rules at has = rw (has.by_long, has.takes, has.id) refl

setup_passes : LeadsOn (codes "--setup") (codes "setup")
unfolding walk_passes
setup_passes s at rest has settles last = rw (setup_walked s.rules at has, has.by_long, has.takes, settles) last

self_help_passes : LeadsOn (codes "--self-help") (codes "self-help")
unfolding walk_passes
self_help_passes s at rest has settles last = rw (self_help_walked s.rules at has, has.by_long, has.takes, settles) last

-- the value of the option is the next word
abbrev TakesOne : Text → Type 0
TakesOne name = (rules : List Rule) (at : At) (text : Text) → HasValued rules name
    → value_taken rules name (valued_met rules name at) text ≡ at_word (valued_taken rules name at text)

file_next : TakesOne (codes "setup")
file_next rules at text has = rw (has.by_id, has.id, has.one) refl

names_next : TakesOne (codes "self-help")
names_next rules at text has = rw (has.by_id, has.id, has.one) refl

-- ---- the flag

-- the rules have the flag `--manual`, which takes no value
pub record HasManual (rules : List Rule) : Type 0 where
  pub rule : Rule
  pub by_long : arg_by_long rules (codes "manual") ≡ Some rule
  pub flag : takes_values rule ≡ false

abbrev flag_used : List Rule → Option Rule → Held → Held
flag_used rules None h = h
flag_used rules (Some a) h = reacted rules a [] h

abbrev pub manual_taken : List Rule → At → At
manual_taken rules at = (flag_used rules (arg_by_long rules (codes "manual")) at.0, at.1)

abbrev pub manual_passes : Shape → At → Bool
manual_passes s at = option_map_or (λ a. react_passes s.rules s.args_override_self a [] at.0) (arg_by_long s.rules (codes "manual")) false

manual_walked : (rules : List Rule) (at : At) → HasManual rules
    → walked rules [] (at_word at) (codes "--manual") ≡ at_word (manual_taken rules at)
unfolding clap_on_literals
manual_walked rules at has = rw (has.by_long, has.flag) refl

manual_word_passes : (s : Shape) (at : At) (rest : List Text) → HasManual s.rules → manual_passes s at ≡ true
    → walk_passes s [] (at_word (manual_taken s.rules at)) rest ≡ true → walk_passes s [] (at_word at) (codes "--manual" ∷ rest) ≡ true
unfolding walk_passes
manual_word_passes s at rest has passes last =
    let passed : react_passes s.rules s.args_override_self has.rule [] at.0 ≡ true =
    subst (λ (met : Option Rule). option_map_or (λ a. react_passes s.rules s.args_override_self a [] at.0) met false ≡ true) has.by_long
    passes in
    let after : walk_passes s [] (at_word (reacted s.rules has.rule [] at.0, at.1)) rest ≡ true =
    subst (λ (met : Option Rule). walk_passes s [] (at_word (flag_used s.rules met at.0, at.1)) rest ≡ true) has.by_long last in
    rw (manual_walked s.rules at has, has.by_long, has.flag, passed) after

-- ---- options that are chosen

-- the rules have the option
abbrev pub HasOption : List Rule → OptionWord → Type 0
HasOption rules Setup = HasValued rules (codes "setup")
HasOption rules Manual = HasManual rules
HasOption rules SelfHelp = HasValued rules (codes "self-help")

abbrev pub choice_taken : List Rule → At → Choice → At
choice_taken rules at (setup_to file) = valued_taken rules (codes "setup") at file
choice_taken rules at manual_on = manual_taken rules at
choice_taken rules at (self_help_of names) = valued_taken rules (codes "self-help") at names

abbrev pub choices_taken : List Rule → At → List Choice → At
choices_taken rules at [] = at
choices_taken rules at (choice ∷ rest) = choices_taken rules (choice_taken rules at choice) rest

-- the tests that an option passes
abbrev pub choice_passed : Shape → At → Choice → Bool
choice_passed s at (setup_to file) = settle_passes s.rules s.args_override_self at.0
choice_passed s at manual_on = manual_passes s at
choice_passed s at (self_help_of names) = settle_passes s.rules s.args_override_self at.0

abbrev pub choices_passed : Shape → At → List Choice → Bool
choices_passed s at [] = true
choices_passed s at (choice ∷ rest) = choice_passed s at choice && choices_passed s (choice_taken s.rules at choice) rest

-- the rules have each that is chosen
abbrev pub HaveOptions : List Rule → List Choice → Type 0
HaveOptions rules [] = Unit {0}
HaveOptions rules (choice ∷ rest) = HasOption rules (option_of choice) × HaveOptions rules rest

-- an option and its value lead the walk on
valued_walked : (rules : List Rule) (word name : Text) (at : At) (text : Text) (rest : List Text) → Leads word name → TakesOne name
    → HasValued rules name → is_plain_word text ≡ true
    → fold (walked rules []) (at_word at) (word ∷ text ∷ rest) ≡ fold (walked rules []) (at_word (valued_taken rules name at text)) rest
valued_walked rules word name at text rest leads takes has plain =
    ap (λ (w : Walk). fold (walked rules []) w (text ∷ rest)) (leads rules at has)
    ∙ ap (λ (w : Walk). fold (walked rules []) w rest)
    (value_walked rules name (valued_met rules name at) text plain ∙ takes rules at text has)

choices_walked : (rules : List Rule) (at : At) (choices : List Choice) → HaveOptions rules choices → list_all is_plain_choice choices ≡ true
    → fold (walked rules []) (at_word at) (choices_words choices) ≡ at_word (choices_taken rules at choices)
choices_walked rules at [] have plain = refl
choices_walked rules at (setup_to file ∷ rest) have plain =
    let both = and_parts (is_plain_word file) (list_all is_plain_choice rest) plain in
    valued_walked rules (codes "--setup") (codes "setup") at file (choices_words rest) setup_walked file_next have.0 both.0
    ∙ choices_walked rules (valued_taken rules (codes "setup") at file) rest have.1 both.1
choices_walked rules at (manual_on ∷ rest) have plain =
    ap (λ (w : Walk). fold (walked rules []) w (choices_words rest)) (manual_walked rules at have.0)
    ∙ choices_walked rules (manual_taken rules at) rest have.1 plain
choices_walked rules at (self_help_of names ∷ rest) have plain =
    let both = and_parts (is_plain_word names) (list_all is_plain_choice rest) plain in
    valued_walked rules (codes "--self-help") (codes "self-help") at names (choices_words rest) self_help_walked names_next have.0 both.0
    ∙ choices_walked rules (valued_taken rules (codes "self-help") at names) rest have.1 both.1

-- and pass its tests
valued_passes : (s : Shape) (word name : Text) (at : At) (text : Text) (rest : List Text) → LeadsOn word name → TakesOne name
    → HasValued s.rules name → is_plain_word text ≡ true
    → settle_passes s.rules s.args_override_self at.0 ≡ true → walk_passes s [] (at_word (valued_taken s.rules name at text)) rest ≡ true
    → walk_passes s [] (at_word at) (word ∷ text ∷ rest) ≡ true
valued_passes s word name at text rest leads takes has plain settles last =
    leads s at (text ∷ rest) has settles
    (value_passes s name (valued_met s.rules name at) text rest plain
    ∙ ap (λ (w : Walk). walk_passes s [] w rest) (takes s.rules at text has) ∙ last)

choices_walk_passes : (s : Shape) (at : At) (choices : List Choice) → HaveOptions s.rules choices → list_all is_plain_choice choices ≡ true
    → choices_passed s at choices ≡ true
    → walk_passes s [] (at_word at) (choices_words choices) ≡ true
unfolding walk_passes
choices_walk_passes s at [] have plain passes = refl
choices_walk_passes s at (setup_to file ∷ rest) have plain passes =
    let both = and_parts (is_plain_word file) (list_all is_plain_choice rest) plain in
    let after = valued_taken s.rules (codes "setup") at file in
    let steps = and_parts (settle_passes s.rules s.args_override_self at.0) (choices_passed s after rest) passes in
    valued_passes s (codes "--setup") (codes "setup") at file (choices_words rest) setup_passes file_next have.0 both.0 steps.0
    (choices_walk_passes s after rest have.1 both.1 steps.1)
choices_walk_passes s at (manual_on ∷ rest) have plain passes =
    let steps = and_parts (manual_passes s at) (choices_passed s (manual_taken s.rules at) rest) passes in
    manual_word_passes s at (choices_words rest) have.0 steps.0 (choices_walk_passes s (manual_taken s.rules at) rest have.1 plain steps.1)
choices_walk_passes s at (self_help_of names ∷ rest) have plain passes =
    let both = and_parts (is_plain_word names) (list_all is_plain_choice rest) plain in
    let after = valued_taken s.rules (codes "self-help") at names in
    let steps = and_parts (settle_passes s.rules s.args_override_self at.0) (choices_passed s after rest) passes in
    valued_passes s (codes "--self-help") (codes "self-help") at names (choices_words rest) self_help_passes names_next have.0 both.0
    steps.0
    (choices_walk_passes s after rest have.1 both.1 steps.1)

-- ---- a complete call

abbrev pub start : At
start = (nothing_held, 1)

-- the state in which the walk ends
abbrev pub call_taken : List Rule → List Text → List Choice → At
call_taken rules own choices = choices_taken rules (own_taken rules start own) choices

-- the tests of a parse that own words, the options and the end pass
pub record PassesCall (s : Shape) (own : List Text) (choices : List Choice) : Type 0 where
  pub words : own_passes s start own ≡ true
  pub options : choices_passed s (own_taken s.rules start own) choices ≡ true
  pub last : (settle_passes s.rules s.args_override_self (call_taken s.rules own choices).0
      && (list_all default_passes s.rules && is_valid s (finished s.rules (call_taken s.rules own choices).0) false)) ≡ true

-- the arguments of a call are plain, and a subcommand takes its options
pub record IsCall (rules : List Rule) (own : List Text) (choices : List Choice) : Type 0 where
  pub single : list_all is_single rules ≡ true
  pub have : HaveOptions rules choices
  pub plain : list_all is_plain_word own ≡ true
  pub plain_choices : list_all is_plain_choice choices ≡ true

call_walked : (rules : List Rule) (own : List Text) (choices : List Choice) → IsCall rules own choices
    → walk rules [] nothing_held (own ++ choices_words choices) ≡ at_word (call_taken rules own choices)
call_walked rules own choices is =
    own_walked rules start own (choices_words choices) is.single is.plain
    ∙ choices_walked rules (own_taken rules start own) choices is.have is.plain_choices

-- a plain call passes a level of the parse
pub call_passes : (s : Shape) (own : List Text) (choices : List Choice) → IsCall s.rules own choices → PassesCall s own choices
    → level_passes s [] nothing_held (own ++ choices_words choices) false ≡ true
call_passes s own choices is passes =
    let words = own_walk_passes s start own (choices_words choices) is.single is.plain passes.words
    (choices_walk_passes s (own_taken s.rules start own) choices is.have is.plain_choices passes.options) in
    let end = call_walked s.rules own choices is in
    rw (words, end) passes.last

-- and what it holds then
pub call_rows : (s : Shape) (own : List Text) (choices : List Choice) → IsCall s.rules own choices
    → rows_after s.rules [] (own ++ choices_words choices) ≡ finished s.rules (call_taken s.rules own choices).0
call_rows s own choices is = ap (λ (w : Walk). finished s.rules w.held) (call_walked s.rules own choices is)
