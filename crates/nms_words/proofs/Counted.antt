-- What is asked for has a number of arguments that its subcommand may have.
use Rattle.std.proofs.Common.{◌≡◌, ◌≤◌, ◌++◌, List, [], ◌∷◌, Option, Some, None, length, option_map, option_and_then, refl, ap, suc, ◌∙◌}
use Rattle.std.proofs.Common.{arith}
use Rattle.std.proofs.lemmas.List.{length-append}
use Rattle.std.specs.List.{cons_option}
use Rattle.clap.specs.Words.{Row, Text, first_of}
use Rattle.nms_words.specs.CommandLine.{AreCounted, Asked, asked_in, asked_of, asked_with, firsts_of, given_of, more_names, own_in}
use Rattle.nms_words.specs.CommandLine.{own_names, script_alone, sub_named}
use Rattle.nms_words.specs.declared.subcommand.Sub.{Sub}

firsts_counted : (rows : List Row) (ids : List Text) (own : List Text) → firsts_of rows ids ≡ Some own → length own ≡ length ids
firsts_counted rows [] own is = let none : own ≡ [] = cc in ap length none
firsts_counted rows (id ∷ ids) own is = go (first_of id rows) (firsts_of rows ids) (firsts_counted rows ids) is
  where
    go : (value : Option Text) (values : Option (List Text)) → ((rest : List Text) → values ≡ Some rest → length rest ≡ length ids)
        → option_and_then (λ v. option_map (λ vs. v ∷ vs) values) value ≡ Some own → length own ≡ suc (length ids)
    go None values counted e = cc
    go (Some v) None counted e = cc
    go (Some v) (Some vs) counted e = let all : own ≡ v ∷ vs = cc in ap length all ∙ ap suc (counted vs refl)

given_counted : (rows : List Row) (ids : List Text) → length (given_of rows ids) ≤ length ids
given_counted rows [] = omega arith
given_counted rows (id ∷ ids) = go (first_of id rows) (given_counted rows ids)
  where
    go : (value : Option Text) → length (given_of rows ids) ≤ length ids → length (cons_option value (given_of rows ids)) ≤ suc (length ids)
    go None fewer = omega arith
    go (Some v) fewer = omega arith

words_counted : (rows : List Row) (sub : Sub) (own : List Text) → own_in rows sub ≡ Some own → AreCounted sub (length own)
words_counted rows sub own is = go (firsts_of rows (own_names sub)) (firsts_counted rows (own_names sub)) is
  where
    more : List Text
    more = given_of rows (more_names sub)

    go : (found : Option (List Text)) → ((firsts : List Text) → found ≡ Some firsts → length firsts ≡ length (own_names sub))
        → option_map (λ firsts. firsts ++ more) found ≡ Some own → AreCounted sub (length own)
    go None counted e = cc
    go (Some firsts) counted e =
        let all : own ≡ firsts ++ more = cc in
        let sum = ap length all ∙ length-append firsts more in
        let needed = counted firsts refl in
        let few = given_counted rows (more_names sub) in
        (omega arith, omega arith)

asked_counted : (rows : List Row) (sub : Sub) (asked : Asked) → asked_in rows sub ≡ Some asked → AreCounted asked.command (length asked.own)
asked_counted rows sub asked is = go (own_in rows sub) (words_counted rows sub) is
  where
    go : (own : Option (List Text)) → ((found : List Text) → own ≡ Some found → AreCounted sub (length found))
        → option_map (asked_with rows sub) own ≡ Some asked → AreCounted asked.command (length asked.own)
    go None counted e = cc
    go (Some found) counted e =
        let whole : asked ≡ asked_with rows sub found = cc in
        rw whole (counted found refl)

pub own_counted : (met : Option (Text × List Row)) (asked : Asked) → asked_of met ≡ Some asked → AreCounted asked.command (length asked.own)
own_counted None asked is = let alone : asked ≡ script_alone = cc in rw alone (omega arith, omega arith)
own_counted (Some met) asked is = go (sub_named met.0) is
  where
    go : (sub : Option Sub) → option_and_then (asked_in met.1) sub ≡ Some asked → AreCounted asked.command (length asked.own)
    go None e = cc
    go (Some sub) e = asked_counted met.1 sub asked e
