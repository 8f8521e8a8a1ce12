-- Rows in which each own word has a value.
use Rattle.std.proofs.Common.{◌≡◌, ◌∙◌, ◌++◌, ℕ, Bool, true, false, List, [], ◌∷◌, Some, find, fold, is_some, option_and_then, refl, ap}
use Rattle.std.proofs.Common.{cond}
use Rattle.std.proofs.lemmas.Slice.Eq.{bytes_eq-Decides}
use Rattle.std.specs.Prelude.{◌+◌, min, slice_get}
use Rattle.std.specs.Option.{option_map_or}
use Rattle.std.specs.Str.{bytes_eq}
use Rattle.clap.specs.Facts.{explicit_source}
use Rattle.clap.specs.Matches.{count_text}
use Rattle.clap.specs.Takes.{is_given}
use Rattle.clap.specs.Walk.{Row, Rule, Text, action_of, at_row, count_of, counted, default_rows, first_of, has_row, more_values, new_count}
use Rattle.clap.specs.Walk.{reading_by, used, used_as, values_or_missing, with_count, with_default, with_values, without}
use Rattle.clap.specs.declared.builder.action.ArgAction.{ArgAction}
use Rattle.clap.specs.declared.builder.action.ArgAction.TheVariants.{Set, Append, SetTrue, SetFalse, Count, Help, HelpShort, HelpLong}
use Rattle.clap.specs.declared.builder.action.ArgAction.TheVariants.{Version}
use Rattle.clap.specs.declared.builder.value_parser.Reading.{Reading}
use Rattle.clap.specs.declared.parser.matches.ValueSource.{ValueSource}
use Rattle.clap.specs.declared.parser.matches.ValueSource.TheVariants.{CommandLine, DefaultValue}

abbrev pub HasOne : List Text → Type 0
HasOne [] = ⊥
HasOne (x ∷ xs) = Unit {0}

one_more : (xs ys : List Text) → HasOne xs → HasOne (xs ++ ys)
one_more [] ys has = elim has [ ]
one_more (x ∷ xs) ys has = tt

pub one_last : (xs : List Text) (x : Text) → HasOne (xs ++ x ∷ [])
one_last [] x = tt
one_last (y ∷ ys) x = tt

-- which ids are of own words
module _ (own : Text → Bool) where
  -- an own word has a value
  abbrev pub Fits : Text → List Text → Type 0
  Fits id values = own id ≡ true → HasOne values

  abbrev pub Filled : List Row → Type 0
  Filled [] = Unit {0}
  Filled (r ∷ rs) = Fits r.id r.values × Filled rs

  joined : (xs ys : List Row) → Filled xs → Filled ys → Filled (xs ++ ys)
  joined [] ys a b = b
  joined (x ∷ xs) ys a b = (a.0, joined xs ys a.1 b)

  at_row_filled : (id : Text) (change : Row → List Row) (missing rows : List Row) → Filled missing
      → ((r : Row) → Fits r.id r.values → Filled (change r)) → Filled rows → Filled (at_row id change missing rows)
  at_row_filled id change missing [] new keeps old = new
  at_row_filled id change missing (r ∷ rs) new keeps old = go (bytes_eq r.id id) (at_row_filled id change missing rs new keeps old.1)
    where
      go : (b : Bool) → Filled (at_row id change missing rs) → Filled (cond b (change r ++ rs) (r ∷ at_row id change missing rs))
      go true rest = joined (change r) rs (keeps r old.0) old.1
      go false rest = (old.0, rest)

  without_filled : (id : Text) (rows : List Row) → Filled rows → Filled (without id rows)
  without_filled id rows old = at_row_filled id (λ _. []) [] rows tt (λ _ _. tt) old

  values_filled : (id : Text) (how : Reading) (s : ValueSource) (values : List Text) (rows : List Row) → Fits id values → Filled rows
      → Filled (with_values id how s values rows)
  values_filled id how s values rows fits old =
      at_row_filled id (more_values s values) _ rows (fits, tt) (λ r has. (λ is. one_more r.values values (has is), tt)) old

  count_filled : (id : Text) (how : Reading) (s : ValueSource) (n : ℕ) (rows : List Row) → Filled rows → Filled (with_count id how s n rows)
  count_filled id how s n rows old = at_row_filled id (new_count s n) _ rows (
    (λ _. tt),
    tt,
  ) (λ r _. (λ _. one_last r.values (count_text n), tt)) old

  counted_filled : (id : Text) (how : Reading) (values : List Text) (rows : List Row) → Filled rows → Filled (counted id how values rows)
  counted_filled id how [] rows old = count_filled id how CommandLine (min (count_of id rows
      + 1) 255) (without id rows) (without_filled id rows old)
  counted_filled id how (v ∷ vs) rows old =
      values_filled id how CommandLine (v ∷ vs) (without id rows) (λ _. tt) (without_filled id rows old)

  used_as_filled : (action : ArgAction) (id : Text) (how : Reading) (values : List Text) (rows : List Row) → Fits id values → Filled rows
      → Filled (used_as action id how values rows)
  used_as_filled Set id how values rows fits old =
      values_filled id how CommandLine values (without id rows) fits (without_filled id rows old)
  used_as_filled SetTrue id how values rows fits old =
      values_filled id how CommandLine values (without id rows) fits (without_filled id rows old)
  used_as_filled SetFalse id how values rows fits old =
      values_filled id how CommandLine values (without id rows) fits (without_filled id rows old)
  used_as_filled Append id how values rows fits old = values_filled id how CommandLine values rows fits old
  used_as_filled Count id how values rows fits old = counted_filled id how values rows old
  used_as_filled Help id how values rows fits old = old
  used_as_filled HelpShort id how values rows fits old = old
  used_as_filled HelpLong id how values rows fits old = old
  used_as_filled Version id how values rows fits old = old

  missing_fits : (a : Rule) (values : List Text) → Fits a.id values → Fits a.id (values_or_missing a values)
  missing_fits a [] fits = λ is. elim (fits is) [ ]
  missing_fits a (v ∷ vs) fits = λ _. tt

  pub used_filled : (a : Rule) (values : List Text) (rows : List Row) → Fits a.id values → Filled rows → Filled (used a values rows)
  used_filled a values rows fits old =
      used_as_filled (action_of a) a.id (reading_by a) (values_or_missing a values) rows (missing_fits a values fits) old

  -- ---- defaults

  default_filled : (rows : List Row) (a : Rule) → Filled rows → Filled (with_default rows a)
  default_filled rows a old = go (has_row a.id rows) a.defaults
    where
      go : (b : Bool) (values : List Text) → Filled (cond b rows (default_rows a.id (reading_by a) values rows))
      go true values = old
      go false [] = old
      go false (v ∷ vs) = values_filled a.id (reading_by a) DefaultValue (v ∷ vs) rows (λ _. tt) old

  pub defaults_filled : (rules : List Rule) (rows : List Row) → Filled rows → Filled (fold with_default rows rules)
  defaults_filled [] rows old = old
  defaults_filled (a ∷ rest) rows old = defaults_filled rest (with_default rows a) (default_filled rows a old)

  -- ---- reading

  first_in : (values : List Text) → HasOne values → is_some (slice_get values 0) ≡ true
  first_in [] has = elim has [ ]
  first_in (x ∷ xs) has = refl

  -- one of its arguments that was given has a first value
  pub given_first : (id : Text) (rows : List Row) → own id ≡ true → Filled rows → is_given id rows ≡ true
      → is_some (first_of id rows) ≡ true
  given_first id [] is filled given = cc
  given_first id (r ∷ rs) is filled given = go (bytes_eq r.id id) refl given (given_first id rs is filled.1)
    where
      go : (b : Bool) → bytes_eq r.id id ≡ b
          → option_map_or (λ x. explicit_source x.source) (cond b (Some r) (find (λ x. bytes_eq x.id id) rs)) false ≡ true
          → (is_given id rs ≡ true → is_some (first_of id rs) ≡ true)
          → is_some (option_and_then (λ x. slice_get x.values 0) (cond b (Some r) (find (λ x. bytes_eq x.id id) rs))) ≡ true
      go true same given later = first_in r.values (filled.0 (ap own ((bytes_eq-Decides r.id id).0 same) ∙ is))
      go false same given later = later given
