-- How a file of lines comes from one line to the next.
use Rattle.std.proofs.Common.{◌≡◌, ◌++◌, ◌∷◌, true, List, [], Option, Some, None, ap, ◌∙◌, append_assoc}
use Rattle.std.specs.Option.{is_some}
use Rattle.nms_lines.specs.Layout.{Record}
use Rattle.nms_files.specs.LineFile.{HaveCome}

-- a line after a refused one
pub stay_refused : {X F : Type 0} (AreTaken : List Record → List X → Type 0) (IsRefused : List X → Record → F → Type 0)
    (records : List Record) (line : Record) (items : List X) (before : Option F)
    → is_some before ≡ true → HaveCome AreTaken IsRefused records items before
    → HaveCome AreTaken IsRefused (records ++ line ∷ []) items before
stay_refused AreTaken IsRefused records line items None some come = absurd (cc)
stay_refused AreTaken IsRefused records line items (Some why) some first = record {
  before = first.before;
  line = first.line;
  behind = first.behind ++ line ∷ [];
  items = first.items;
  parted = ap (λ (r : List Record). r ++ line ∷ []) first.parted ∙ append_assoc first.before (first.line ∷ first.behind) (line ∷ []);
  taken = first.taken;
  refused = first.refused;
}
