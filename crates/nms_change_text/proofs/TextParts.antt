-- The text of one record, in parts.
use Rattle.std.proofs.Common.{ℕ, ◌≡◌, List, [], ◌∷◌, ◌++◌, ap, ◌∙◌, append_assoc}
use Rattle.std.proofs.lemmas.List.{append-nil}
use Rattle.nms_lines.specs.Layout.{Record}
use Rattle.nms_lines.specs.Text.{later_fields, record_text, text_of}
use Rattle.nms_lines.proofs.Offered.{join-append}

-- its first field, the others each after a comma, and a line feed
pub record_parts : (first : List ℕ) (fields : Record) → text_of ((first ∷ fields) ∷ []) ≡ first ++ (later_fields fields ++ 10 ∷ [])
record_parts first fields =
    append-nil (record_text (first ∷ fields))
    ∙ ap (λ (text : List ℕ). text ++ 10 ∷ []) (join-append first [] fields)
    ∙ append_assoc first (later_fields fields) (10 ∷ [])
