-- The values that a subcommand's own words are given are those that it asks for.
use Rattle.std.proofs.Common.{◌≡◌, ◌++◌, ◌∙◌, true, List, [], ◌∷◌, Option, Some, None, is_some, option_map, option_and_then}
use Rattle.std.proofs.Common.{refl, sym, ap}
use Rattle.std.proofs.lemmas.List.Elements.{filter_map-append}
use Rattle.std.specs.List.{cons_option, filter_map}
use Rattle.clap.specs.Words.{Row, Text, first_of}
use Rattle.nms_words.specs.CommandLine.{Asked, asked_in, asked_with, firsts_of, given_of, more_names, own_names}
use Rattle.nms_words.specs.WordTable.{own_by, own_of, own_value}
use Rattle.nms_words.specs.declared.subcommand.Sub.{Sub}
use Rattle.nms_words.specs.declared.subcommand.Word.{Word}

-- the values of words are those of the names of the arguments that are no options
values_given : (rows : List Row) (words : List Word) → filter_map (own_value rows) words ≡ given_of rows (own_of words)
values_given rows [] = refl
values_given rows (word ∷ words) = go (own_by word.kind word.name.now) (values_given rows words)
  where
    go : (name : Option Text) → filter_map (own_value rows) words ≡ given_of rows (own_of words)
        → cons_option (option_and_then (λ n. first_of n rows) name) (filter_map (own_value rows) words)
        ≡ given_of rows (cons_option name (own_of words))
    go None rest = rest
    go (Some n) rest = ap (cons_option (first_of n rows)) rest

-- if each name has a value, its first values are all that is given
firsts_given : (rows : List Row) (ids : List Text) → is_some (firsts_of rows ids) ≡ true → firsts_of rows ids ≡ Some (given_of rows ids)
firsts_given rows [] some = refl
firsts_given rows (id ∷ ids) some = go (first_of id rows) (firsts_of rows ids) (firsts_given rows ids) some
  where
    go : (value : Option Text) (values : Option (List Text)) → (is_some values ≡ true → values ≡ Some (given_of rows ids))
        → is_some (option_and_then (λ v. option_map (λ vs. v ∷ vs) values) value) ≡ true
        → option_and_then (λ v. option_map (λ vs. v ∷ vs) values) value ≡ Some (cons_option value (given_of rows ids))
    go None values rest is = cc
    go (Some v) None rest is = cc
    go (Some v) (Some vs) rest is = ap (option_map (λ (all : List Text). v ∷ all)) (rest refl)

mapped : {A B : Type 0} (f : A → B) (found : Option A) → is_some (option_map f found) ≡ true → is_some found ≡ true
mapped f None some = cc
mapped f (Some x) some = refl

asked_given : (rows : List Row) (sub : Sub) → is_some (asked_in rows sub) ≡ true
    → asked_in rows sub ≡ Some (asked_with rows sub (given_of rows (own_names sub ++ more_names sub)))
asked_given rows sub some =
    let value : Text → Option Text = λ id. first_of id rows in
    let more = given_of rows (more_names sub) in
    let needed = mapped (λ (own : List Text). own ++ more) (firsts_of rows (own_names sub)) (mapped (asked_with rows sub) _ some) in
    ap (λ (firsts : Option (List Text)). option_map (asked_with rows sub) (option_map (λ own. own ++ more) firsts))
    (firsts_given rows (own_names sub) needed)
    ∙ ap (λ (own : List Text). Some (asked_with rows sub own)) (sym (filter_map-append value (own_names sub) (more_names sub)))

-- what is read of each word is what the subcommand asks
pub request_given : (rows : List Row) (sub : Sub) (words : List Word) (asked : Asked) → is_some (asked_in rows sub) ≡ true
    → own_of words ≡ own_names sub ++ more_names sub → asked ≡ asked_with rows sub (filter_map (own_value rows) words)
    → Some asked ≡ asked_in rows sub
request_given rows sub words asked some named is =
    ap (λ (a : Asked). Some a) is
    ∙ ap (λ (own : List Text). Some (asked_with rows sub own)) (values_given rows words ∙ ap (given_of rows) named)
    ∙ sym (asked_given rows sub some)
