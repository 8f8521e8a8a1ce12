-- What the matches hold of an option, and what one without a value gives.
use Rattle.std.proofs.Common.{◌≡◌, ◌∙◌, Bor, List, [], Option, Some, None, map, option_map, unwrap_or, ap}
use Rattle.clap.specs.Words.{Text, all_of, matched_of, raw_values, rows_of}
use Rattle.clap.specs.declared.parser.matches.Found.{Found}
use Rattle.clap.proofs.WalkLemmas.{raw_values-rows}
use Rattle.nms_serve.proofs.FeedLemmas.{texts}

values_given : (met : Option (Bor (List (Bor Text)))) (other : Bor (List (Bor Text))) (all : Option (List Text)) → other.now ≡ []
    → option_map (λ values. map (λ value. value.now) values.now) met ≡ all → texts (unwrap_or met other).now ≡ unwrap_or all []
values_given None other all none is = ap texts none ∙ ap (λ (a : Option (List Text)). unwrap_or a []) is
values_given (Some values) other all none is = ap (λ (a : Option (List Text)). unwrap_or a []) is

-- the values of an option, or none
pub values_met : (found : Found) (name : Text) (met : Option (Bor (List (Bor Text)))) (other values : Bor (List (Bor Text)))
    → option_map (λ given. map (λ value. value.now) given.now) met ≡ option_map raw_values (matched_of found name)
    → other.now ≡ [] → values ≡ unwrap_or met other
    → texts values.now ≡ unwrap_or (all_of name (rows_of found)) []
values_met found name met other values held none is = ap (λ (v : Bor (List (Bor Text))). texts v.now) is
    ∙ values_given met other (all_of name (rows_of found)) none (held ∙ raw_values-rows found name)

-- the first value of an option, or an empty text
pub first_given : (met : Option (Bor Text)) (other : Bor Text) (first : Option Text) → other.now ≡ []
    → option_map (λ value. value.now) met ≡ first → (unwrap_or met other).now ≡ unwrap_or first []
first_given None other first none is = none ∙ ap (λ (a : Option Text). unwrap_or a []) is
first_given (Some value) other first none is = ap (λ (a : Option Text). unwrap_or a []) is
