-- The names of some elements, with one element more after them: if a map knows the names of the elements, it then knows
-- that of the one more.
use Rattle.std.proofs.Common.{◌≡◌, ℕ, suc, ◌+◌, Bool, true, false, cond, List, [], ◌∷◌}
use Rattle.std.proofs.Common.{◌++◌, length, Option, Some, None, Bor, refl, sym, ap, ◌∙◌, if◌then◌else◌, arith}
use Rattle.std.specs.Option.{option_map_or}
use Rattle.std.specs.Str.{bytes_eq}
use Rattle.std.proofs.lemmas.Slice.Eq.{bytes_eq-Decides}
use Rattle.toml.specs.Data.{Data}
use Rattle.indexmap.specs.IndexMap.{IndexMap, get_by}
use Rattle.nms_quote.specs.Roster.{Name}
use Rattle.nms_fees.specs.Places.{name_in}
use Rattle.nms_setup_places.specs.Findings.{first_named, is_named}
use Rattle.nms_setup_places.specs.Known.{KnowsNames}

-- the first of two places that is there
abbrev or_else : Option ℕ → Option ℕ → Option ℕ
or_else first last = option_map_or (λ place. Some place) first last

or_else-none : (first : Option ℕ) → or_else first None ≡ first
or_else-none None = refl
or_else-none (Some place) = refl

-- the place of an element, if it has the name
abbrev place_if : Bool → ℕ → Option ℕ
place_if is_it place = if is_it then Some place else None

first_named-push : (name : Name) (before : ℕ) (rows : List Data) (row : Data)
    → first_named name before (rows ++ row ∷ [])
    ≡ or_else (first_named name before rows) (place_if (is_named name row) (before + length rows))
first_named-push name before [] row = ap (place_if (is_named name row)) (omega arith)
first_named-push name before (first ∷ rows) row = by (is_named name first) (first_named-push name (suc before) rows row)
  where
    by : (b : Bool)
        → (first_named name (suc before) (rows ++ row ∷ [])
        ≡ or_else (first_named name (suc before) rows) (place_if (is_named name row) (suc before + length rows)))
        → (if b then Some before else first_named name (suc before) (rows ++ row ∷ []))
        ≡ or_else (if b then Some before else first_named name (suc before) rows)
        (place_if (is_named name row) (before + length (first ∷ rows)))
    by true rest = refl
    by false rest = rest
        ∙ ap (λ place. or_else (first_named name (suc before) rows) (place_if (is_named name row) place)) (omega arith)

module _ {S : Type 0} (known : IndexMap (Bor Name) ℕ S) (rows : List Data) (row : Data) (knows : KnowsNames known rows) where
  -- an element without the name leaves it as it was
  passed : (name : Bor Name) → is_named name.now row ≡ false
      → get_by (λ key. bytes_eq name.now key.now) known ≡ first_named name.now 0 (rows ++ row ∷ [])
  passed name other = knows name
      ∙ sym (first_named-push name.now 0 rows row
      ∙ ap (λ b. or_else (first_named name.now 0 rows) (place_if b (0 + length rows))) other
      ∙ or_else-none (first_named name.now 0 rows))

  -- one more element without a name
  pub knows-unnamed : name_in row ≡ None → KnowsNames known (rows ++ row ∷ [])
  knows-unnamed none name = passed name (ap (λ own. option_map_or (λ other. bytes_eq other name.now) own false) none)

  module _ (own : Bor Name) (some : name_in row ≡ Some own.now) where
    is_own : (name : Bor Name) → is_named name.now row ≡ bytes_eq own.now name.now
    is_own name = ap (λ its. option_map_or (λ other. bytes_eq other name.now) its false) some

    -- one more element with a name that an earlier one has
    pub knows-again : (place : ℕ) → get_by (λ key. bytes_eq own.now key.now) known ≡ Some place → KnowsNames known (rows ++ row ∷ [])
    knows-again place found name = by (bytes_eq own.now name.now) refl
      where
        by : (b : Bool) → bytes_eq own.now name.now ≡ b
            → get_by (λ key. bytes_eq name.now key.now) known ≡ first_named name.now 0 (rows ++ row ∷ [])
        by false other = passed name (is_own name ∙ other)
        by true same =
            let there : first_named name.now 0 rows ≡ Some place =
            ap (λ its. first_named its 0 rows) (sym ((bytes_eq-Decides own.now name.now).0 same)) ∙ sym (knows own) ∙ found in
            knows name ∙ there
            ∙ sym (first_named-push name.now 0 rows row
            ∙ ap (λ first. or_else first (place_if (is_named name.now row) (0 + length rows))) there)

    -- one more element with a new name, which is put into the map with its place
    pub knows-more : (more : IndexMap (Bor Name) ℕ S) (place : ℕ) → place ≡ length rows
        → get_by (λ key. bytes_eq own.now key.now) known ≡ None
        → ((name : Bor Name) → get_by (λ key. bytes_eq name.now key.now) more
        ≡ cond (bytes_eq own.now name.now) (Some place) (get_by (λ key. bytes_eq name.now key.now) known))
        → KnowsNames more (rows ++ row ∷ [])
    knows-more more place last absent put name = put name ∙ by (bytes_eq own.now name.now) refl
      where
        by : (b : Bool) → bytes_eq own.now name.now ≡ b
            → cond b (Some place) (get_by (λ key. bytes_eq name.now key.now) known) ≡ first_named name.now 0 (rows ++ row ∷ [])
        by false other = passed name (is_own name ∙ other)
        by true same =
            let none : first_named name.now 0 rows ≡ None =
            ap (λ its. first_named its 0 rows) (sym ((bytes_eq-Decides own.now name.now).0 same)) ∙ sym (knows own) ∙ absent in
            sym (first_named-push name.now 0 rows row
            ∙ ap (λ first. or_else first (place_if (is_named name.now row) (0 + length rows))) none
            ∙ ap (λ b. place_if b (0 + length rows)) (is_own name ∙ same)
            ∙ ap Some (omega (arith, last)))
