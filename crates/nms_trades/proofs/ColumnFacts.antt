-- Lines of columns, written in parts.
use Rattle.std.proofs.Common.{ℕ, suc, ◌≡◌, ◌+◌, ◌++◌, ◌∷◌, [], Bool, true, false, All, List, Option, None, Some, ap, append_assoc}
use Rattle.std.proofs.Common.{if◌then◌else◌, length, refl, sym, ◌∙◌}
use Rattle.std.proofs.lemmas.List.{append-nil, length-append}
use Rattle.std.proofs.lemmas.List.Concat.{flat_map-append}
use Rattle.std.proofs.lemmas.List.Elements.{All-cons, All-nil}
use Rattle.nms_quote.specs.Roster.{Listing}
use Rattle.nms_board.specs.declared.row.Row.{Row}
use Rattle.nms_lines.specs.Layout.{Record}
use Rattle.nms_lines.specs.Text.{later_fields, record_text, text_of}
use Rattle.nms_lines.proofs.Offered.{join-append}
use Rattle.nms_trades.specs.Answers.{Answer, answer_records}
use Rattle.nms_trades.specs.Answers.Answer.{Judged, Refused}
use Rattle.nms_trades.specs.Columns.{best_fields, column_names, finding_row, found_fields, judged_fields, other_fields, quality_fields}
use Rattle.nms_trades.specs.Columns.{quote_fields, refusal_row}
use Rattle.nms_trades.specs.Counts.{is_other}
use Rattle.nms_trades.specs.Quality.{quality_of}
use Rattle.nms_trades.specs.declared.execution.Execution.{Execution}
use Rattle.nms_trades.specs.declared.finding.Finding.{Finding}
use Rattle.nms_trades.specs.declared.quality.Quality.{Quality}
use Rattle.nms_trades.specs.declared.shape.Shape.TheVariants as shape

-- more fields, each after a comma
pub later-append : (xs ys : Record) → later_fields (xs ++ ys) ≡ later_fields xs ++ later_fields ys
later-append xs ys = flat_map-append (λ (field : List ℕ). 44 ∷ field) xs ys

-- two parts of a record's later fields
pub two_parts : (xs ys : Record) (old begun new : List ℕ) → begun ≡ old ++ later_fields xs → new ≡ begun ++ later_fields ys
    → new ≡ old ++ later_fields (xs ++ ys)
two_parts xs ys old begun new first second =
    second ∙ ap (λ (t : List ℕ). t ++ later_fields ys) first ∙ append_assoc old (later_fields xs) (later_fields ys)
    ∙ ap (λ (t : List ℕ). old ++ t) (sym (later-append xs ys))

-- a line: its first field, its later ones in two parts, and the end
pub row_written : (first : List ℕ) (own rest : Record) (old begun more new : List ℕ) → begun ≡ old ++ (first ++ later_fields own)
    → more ≡ begun ++ later_fields rest → new ≡ more ++ 10 ∷ [] → new ≡ old ++ text_of ((first ∷ own ++ rest) ∷ [])
row_written first own rest old begun more new begins goes_on ended =
    let later = later_fields own ++ later_fields rest in
    let joined : record_text (first ∷ own ++ rest) ≡ (first ++ later) ++ 10 ∷ [] =
    ap (λ (t : List ℕ). t ++ 10 ∷ [])
    (join-append first [] (own ++ rest) ∙ ap (λ (t : List ℕ). first ++ t) (later-append own rest)) in
    let text : text_of ((first ∷ own ++ rest) ∷ []) ≡ (first ++ later) ++ 10 ∷ [] = append-nil (record_text (first ∷ own ++ rest)) ∙ joined in
    let so_far : more ≡ old ++ (first ++ later) =
    goes_on ∙ ap (λ (t : List ℕ). t ++ later_fields rest) begins ∙ append_assoc old (first ++ later_fields own) (later_fields rest)
    ∙ ap (λ (t : List ℕ). old ++ t) (append_assoc first (later_fields own) (later_fields rest)) in
    ended ∙ ap (λ (t : List ℕ). t ++ 10 ∷ []) so_far ∙ append_assoc old (first ++ later) (10 ∷ [])
    ∙ ap (λ (t : List ℕ). old ++ t) (sym text)

-- the first fields of a line: a number, a text with commas in it, and a text after a comma
pub begun_so : (first text last : List ℕ) (own : Record) (old one two begun : List ℕ) → one ≡ old ++ first → two ≡ one ++ text
    → begun ≡ two ++ 44 ∷ last → later_fields own ≡ text ++ 44 ∷ (last ++ []) → begun ≡ old ++ (first ++ later_fields own)
begun_so first text last own old one two begun counted marked ended same =
    ended ∙ ap (λ (t : List ℕ). t ++ 44 ∷ last) (marked ∙ ap (λ (t : List ℕ). t ++ text) counted)
    ∙ append_assoc (old ++ first) text (44 ∷ last) ∙ append_assoc old first (text ++ 44 ∷ last)
    ∙ ap (λ (t : List ℕ). old ++ (first ++ t)) (ap (λ (t : List ℕ). text ++ 44 ∷ t) (sym (append-nil last)) ∙ sym same)

-- four texts, each after a byte
pub four_parts : (a b c d : List ℕ) (u v w x : ℕ) (old one two three new : List ℕ) → one ≡ old ++ (u ∷ a) → two ≡ one ++ (v ∷ b)
    → three ≡ two ++ (w ∷ c) → new ≡ three ++ (x ∷ d) → new ≡ old ++ (u ∷ (a ++ (v ∷ (b ++ (w ∷ (c ++ (x ∷ d)))))))
four_parts a b c d u v w x old one two three new first second third fourth =
    fourth
    ∙ ap (λ (t : List ℕ). t ++ (x ∷ d))
    (third ∙ ap (λ (t : List ℕ). t ++ (w ∷ c)) (second ∙ ap (λ (t : List ℕ). t ++ (v ∷ b)) first))
    ∙ append_assoc ((old ++ (u ∷ a)) ++ (v ∷ b)) (w ∷ c) (x ∷ d) ∙ append_assoc (old ++ (u ∷ a)) (v ∷ b) ((w ∷ c) ++ (x ∷ d))
    ∙ append_assoc old (u ∷ a) ((v ∷ b) ++ ((w ∷ c) ++ (x ∷ d)))

-- how many fields there are: of a side's best quotation, of an execution's quality, and of both sides and the quality
best_length : (best : Option Row) → length (best_fields best) ≡ 2
best_length None = refl
best_length (Some row) = refl

quality_length : (quality : Option Quality) → length (quality_fields quality) ≡ 4
quality_length None = refl
quality_length (Some quality) = refl

quote_length : (execution : Execution) (finding : Finding) → length (quote_fields execution finding) ≡ 8
quote_length execution finding =
    let bid = best_fields finding.best.bid in
    let offer = best_fields finding.best.offer in
    let quality = quality_fields (quality_of execution finding) in
    length-append (bid ++ offer) quality
    ∙ ap (λ (n : ℕ). n + length quality) (length-append bid offer)
    ∙ ap (λ (n : ℕ). (n + length offer) + length quality) (best_length finding.best.bid)
    ∙ ap (λ (n : ℕ). (2 + n) + length quality) (best_length finding.best.offer)
    ∙ ap (λ (n : ℕ). 4 + n) (quality_length (quality_of execution finding))

-- the same for what is found
picked_length : (other : Bool) (here there : Record) → length here ≡ 15 → length there ≡ 15 → length (if other then there else here) ≡ 15
picked_length true here there first second = second
picked_length false here there first second = first

found_length : (roster : Listing) (execution : Execution) (finding : Finding) → length (found_fields roster execution finding) ≡ 15
found_length roster execution finding =
    picked_length (is_other finding.standing) (judged_fields roster execution finding) other_fields
    (ap (λ (n : ℕ). suc (suc (suc (suc (suc (suc (suc n))))))) (quote_length execution finding)) refl

-- the same for a line
row_length : (roster : Listing) (execution : Execution) (finding : Finding)
    → length (finding_row roster execution finding) ≡ length column_names
row_length roster execution finding =
    ap (λ (n : ℕ). suc (suc (suc (suc (suc (suc (suc (suc n)))))))) (found_length roster execution finding)

-- a list of one record
only : (fields : Record) → length fields ≡ length column_names → All (λ (it : Record). length it ≡ length column_names) (fields ∷ [])
only fields same =
    All-cons (λ (it : Record). length it ≡ length column_names) fields [] same (All-nil (λ (it : Record). length it ≡ length column_names))

-- each line has a field for each name
pub named_fields : (roster : Listing) (answer : Answer)
    → All (λ (it : Record). length it ≡ length column_names) (answer_records shape.Columns roster answer)
named_fields roster (Refused refusal) = only (refusal_row refusal) refl
named_fields roster (Judged execution None) = All-nil (λ (it : Record). length it ≡ length column_names)
named_fields roster (Judged execution (Some finding)) = only (finding_row roster execution finding) (row_length roster execution finding)
