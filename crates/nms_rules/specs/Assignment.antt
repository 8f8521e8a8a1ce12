-- How shares may be spread over the usable rows of an order (17 CFR 242.600, "intermarket sweep order": the
-- full displayed size of every protected quotation that is priced better than one it trades at). Rows of participants
-- that the order names under self-help are not usable, so none of them is swept (242.611(b)(1)). What is filled and
-- what it costs are this product's own words.
use Rattle.std.specs.Prelude.{ℕ, ℤ, pos, ◌≡◌, ◌<◌, ◌≤◌, ◌+◌, ◌+ℤ◌, ◌*ℤ◌, ◌<ℤ◌, ◌≤ℤ◌, true, min, List, [], ◌∷◌, All, Any}
use Rattle.nms_rules.specs.Usable.{Usable}

-- shares by participant place
abbrev pub Assignment : Type 0
Assignment = ℕ → ℕ

-- the sum of a number of each row, and of a signed one
unfoldable pub total : (Usable → ℕ) → List Usable → ℕ
total part [] = 0
total part (row ∷ rows) = part row + total part rows

unfoldable pub amount : (Usable → ℤ) → List Usable → ℤ
amount part [] = pos 0
amount part (row ∷ rows) = part row +ℤ amount part rows

-- how many shares are filled, and what they cost
abbrev pub filled : Assignment → List Usable → ℕ
filled given rows = total (λ row. given row.part) rows

abbrev pub total_cost : Assignment → List Usable → ℤ
total_cost given rows = amount (λ row. row.cost *ℤ pos (given row.part)) rows

-- the most that can be filled: all that is shown, or what is asked if that is less
abbrev pub fillable : List Usable → ℕ → ℕ
fillable rows asked = min asked (total (λ row. row.size) rows)

-- every protected row at a better price than this one gets its full displayed size
abbrev pub SweepsBetter : List Usable → Assignment → Usable → Type 0
SweepsBetter rows given row = All (λ other. other.protected ≡ true → other.rank <ℤ row.rank → given other.part ≡ other.size) rows

-- shares go only to usable rows
abbrev pub IsOnUsable : List Usable → Assignment → Type 0
IsOnUsable rows given = (part : ℕ) → 0 < given part → Any (λ row. row.part ≡ part) rows

-- shares go only to usable rows, no row gets more than it shows, and no more is bought or sold than asked; if a row gets
-- shares, every better protected one is swept
pub record IsLawful (rows : List Usable) (asked : ℕ) (given : Assignment) : Type 0 where
  pub on_usable : IsOnUsable rows given
  pub within : All (λ row. given row.part ≤ row.size) rows
  pub at_most : filled given rows ≤ asked
  pub swept : All (λ row. 0 < given row.part → SweepsBetter rows given row) rows

-- a lawful assignment that fills most, and of those that fill as much costs least with fees
pub record IsOptimal (rows : List Usable) (asked : ℕ) (given : Assignment) : Type 0 where
  pub lawful : IsLawful rows asked given
  pub most : (other : Assignment) → IsLawful rows asked other → filled other rows ≤ filled given rows
  pub cheapest : (other : Assignment) → IsLawful rows asked other → filled other rows ≡ filled given rows
      → total_cost given rows ≤ℤ total_cost other rows
