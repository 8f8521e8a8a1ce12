-- What was written if a writing ends early.
use Rattle.std.proofs.Common.{ℕ, ◌≡◌, ◌++◌, ◌+◌, ◌-◌, ◌≤◌, List, [], Option, Some, None, length, take, drop, refl, sym, ap, subst, ◌∙◌}
use Rattle.std.proofs.Common.{append_assoc, arith}
use Rattle.std.proofs.lemmas.List.{append-nil, drop-take, length-drop, take-append-drop, take-take, take_all}
use Rattle.std.specs.Prelude.{Err, Ok, OnErr, Result, ⊤}
use Rattle.std.specs.Io.KnownBytes.{Appends, Keeps, append_known}
use Rattle.csv.proofs.WriteFacts.{appends-more}
use Rattle.nms_lines.specs.Written.{AppendsPart}

-- a prefix, and what comes after it
take_add : (n m : ℕ) (text : List ℕ) → take (n + m) text ≡ take n text ++ take m (drop n text)
take_add n m text =
    sym (take-append-drop n (take (n + m) text))
    ∙ ap (λ (t : List ℕ). t ++ drop n (take (n + m) text)) (take-take n (n + m) text (omega arith))
    ∙ ap (λ (t : List ℕ). take n text ++ t) (drop-take n m text)

-- what is left of the text after a place in it
rest_of : (text : List ℕ) (done : ℕ) → take (length text - done) (drop done text) ≡ drop done text
rest_of text done = take_all (length text - done) (drop done text) (omega (arith, length-drop done text))

-- one write more
pub more_written : (old now new : Option (List ℕ)) (text : List ℕ) (done more : ℕ) → Appends old now (take done text)
    → Appends now new (take more (take (length text - done) (drop done text))) → Appends old new (take (done + more) text)
more_written old now new text done more first next =
    subst (Appends old new) (sym (take_add done more text))
    (appends-more old now new (take done text) (take more (drop done text)) first
    (subst (λ (t : List ℕ). Appends now new (take more t)) (rest_of text done) next))

-- and it ends within the text
pub more_within : (text : List ℕ) (done more : ℕ) → done ≤ length text → more ≤ length (take (length text - done) (drop done text))
    → done + more ≤ length text
more_within text done more within bound =
    omega (arith, within, bound, length-drop done text, ap (λ (t : List ℕ). length t) (rest_of text done))

-- what keeps adds nothing
pub keeps_written : (old now new : Option (List ℕ)) (text : List ℕ) → Appends old now text → Keeps now new → Appends old new text
keeps_written None now new text written keeps = tt
keeps_written (Some x) None new text written keeps = absurd written
keeps_written (Some x) (Some y) None text written keeps = absurd keeps
keeps_written (Some x) (Some y) (Some z) text written keeps = keeps ∙ written

-- a prefix of it was written
pub part_written : (old new : Option (List ℕ)) (text : List ℕ) (done : ℕ) → Appends old new (take done text) → AppendsPart old new text
part_written old new text done written =
    record { part = take done text; rest = drop done text; split = sym (take-append-drop done text); written = written }

-- and nothing more if the next write failed
pub failed_part : {E : Type 0} (result : Result ⊤ E) (old now new : Option (List ℕ)) (text : List ℕ) (done : ℕ)
    → Appends old now (take done text) → Keeps now new → OnErr result (AppendsPart old new text)
failed_part (Ok done_all) old now new text done written keeps = tt
failed_part (Err e) old now new text done written keeps =
    part_written old new text done (keeps_written old now new (take done text) written keeps)

-- a text after known bytes
pub appended : (old : Option (List ℕ)) (text : List ℕ) → Appends old (append_known old text) text
appended None text = tt
appended (Some x) text = refl

-- all of it was written, and what came after added nothing
pub whole_kept : (old now new : Option (List ℕ)) (text : List ℕ) → Appends old now text → Keeps now new → AppendsPart old new text
whole_kept old now new text written keeps =
    record { part = text; rest = []; split = sym (append-nil text); written = keeps_written old now new text written keeps }

-- a text, and a prefix of the next
pub part_more : (old now new : Option (List ℕ)) (text next : List ℕ) → Appends old now text → AppendsPart now new next
    → AppendsPart old new (text ++ next)
part_more old now new text next written more = record {
  part = text ++ more.part;
  rest = more.rest;
  split = ap (λ (t : List ℕ). text ++ t) more.split ∙ sym (append_assoc text more.part more.rest);
  written = appends-more old now new text more.part written more.written;
}
