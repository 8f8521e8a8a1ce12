-- A file of lines of one kind: what its lines say, and the first line that is refused. This product's own rule.
use Rattle.std.specs.Prelude.{◌≡◌, ◌++◌, ◌∷◌, List, map, Option, Some, None, Result, Ok}
use Rattle.nms_lines.specs.Layout.{Record}
use Rattle.nms_lines.specs.declared.line_fault.LineFault.{LineFault}

-- each line says the item at its place
abbrev pub AreSaid : {X : Type 0} → (Record → Result X LineFault) → List Record → List X → Type 0
AreSaid reading records items = map reading records ≡ map (λ item. Ok item) items

-- the first line that is refused: those before it were taken
pub record IsFirstRefused {X : Type 0} (AreTaken : List Record → List X → Type 0) (IsRefused : List X → Record → Type 0)
    (records : List Record) : Type 0 where
  pub before : List Record
  pub line : Record
  pub behind : List Record
  pub items : List X
  pub parted : records ≡ before ++ line ∷ behind
  pub taken : AreTaken before items
  pub refused : IsRefused items line

-- the result of the lines so far: items, or why the first refused line was refused
abbrev pub HaveCome : {X F : Type 0} → (List Record → List X → Type 0) → (List X → Record → F → Type 0) → List Record → List X → Option F
    → Type 0
HaveCome AreTaken IsRefused records items None = AreTaken records items
HaveCome AreTaken IsRefused records items (Some why) = IsFirstRefused AreTaken (λ taken line. IsRefused taken line why) records
