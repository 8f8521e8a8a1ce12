-- The answers to records, written one after another.
use Rattle.std.proofs.Common.{◌≡◌, ◌+◌, ◌++◌, ◌∷◌, [], List, ℕ, suc, true, false, cond, drop, take, map, get_or, length, ◌<◌, refl, sym}
use Rattle.std.proofs.Common.{subst, ap, ◌∙◌, arith, append_assoc}
use Rattle.std.proofs.Common.{Option, None, Some}
use Rattle.std.specs.Io.KnownBytes.{Appends}
use Rattle.std.specs.List.{flat_map}
use Rattle.std.specs.Prelude.{Err, Ok, OnErr, OnOk, Result}
use Rattle.std.proofs.KnownBytes.{Appends-nil, Appends-trans}
use Rattle.std.proofs.lemmas.List.{append-nil, drop_more}
use Rattle.std.proofs.lemmas.List.Concat.{flat_map-append}
use Rattle.std.proofs.lemmas.List.Sums.{take_while-cons}
use Rattle.nms_quote.specs.Roster.{Listing}
use Rattle.nms_lines.specs.Text.{record_text, text_of}
use Rattle.nms_lines.specs.Written.{AppendsPart}
use Rattle.nms_lines.proofs.Offered.{part_more}
use Rattle.nms_trades.specs.Answers.{answer_records, count_before, found_at, in_order, is_before, refusal_in, refused_left}
use Rattle.nms_trades.specs.Answers.{refused_text, text_of_answers}
use Rattle.nms_trades.specs.Answers.Answer.{Judged, Refused}
use Rattle.nms_trades.specs.declared.execution.Execution.{Execution}
use Rattle.nms_trades.specs.declared.execution_file.Refusal.{Refusal}
use Rattle.nms_trades.specs.declared.finding.Finding.{Finding}
use Rattle.nms_trades.specs.declared.shape.Shape.{Shape}

-- a prefix of a text was written, and the rest is still to be
pub record Going (old now : Option (List ℕ)) (whole rest : List ℕ) : Type 0 where
  pub done : List ℕ
  pub written : Appends old now done
  pub split : whole ≡ done ++ rest

pub going_from : (known : Option (List ℕ)) (whole rest : List ℕ) → whole ≡ rest → Going known known whole rest
going_from known whole rest same = record { done = []; written = Appends-nil known; split = same }

-- one piece more
pub going_on : (old now new : Option (List ℕ)) (whole rest piece more : List ℕ) → Going old now whole rest → Appends now new piece
    → rest ≡ piece ++ more → Going old new whole more
going_on old now new whole rest piece more had came split = record {
  done = had.done ++ piece;
  written = Appends-trans old now new had.done piece had.written came;
  split = had.split ∙ ap (λ (t : List ℕ). had.done ++ t) split ∙ sym (append_assoc had.done piece more);
}

-- all of it
pub going_done : (old now : Option (List ℕ)) (whole rest : List ℕ) → Going old now whole rest → rest ≡ [] → Appends old now whole
going_done old now whole rest had none =
    subst (Appends old now) (sym (had.split ∙ ap (λ (t : List ℕ). had.done ++ t) none ∙ append-nil had.done)) had.written

-- a prefix of a text is one of what the text begins
pub part_of_longer : (old new : Option (List ℕ)) (text more : List ℕ) → AppendsPart old new text → AppendsPart old new (text ++ more)
part_of_longer old new text more cut = record {
  part = cut.part;
  rest = cut.rest ++ more;
  split = ap (λ (t : List ℕ). t ++ more) cut.split ∙ append_assoc cut.part cut.rest more;
  written = cut.written;
}

-- a prefix of a piece more
pub going_cut : (old now new : Option (List ℕ)) (whole rest piece more : List ℕ) → Going old now whole rest → AppendsPart now new piece
    → rest ≡ piece ++ more → AppendsPart old new whole
going_cut old now new whole rest piece more had cut split =
    subst (AppendsPart old new) (sym (had.split ∙ ap (λ (t : List ℕ). had.done ++ t) split))
    (part_more old now new had.done (piece ++ more) had.written (part_of_longer now new piece more cut))

-- nothing was written of it
pub nothing_written : (known : Option (List ℕ)) (text : List ℕ) → AppendsPart known known text
nothing_written known text = record { part = []; rest = text; split = refl; written = Appends-nil known }

-- what holds anyway holds at a failure
pub anyway_failed : {A E P : Type 0} (result : Result A E) → P → OnErr result P
anyway_failed (Ok x) holds = tt
anyway_failed (Err e) holds = holds

-- a text was written, and then another one, or a prefix of it
pub written_after : {A E : Type 0} (result : Result A E) (old now new : Option (List ℕ)) (text more : List ℕ) → Appends old now text
    → OnOk result (Appends now new more) → OnOk result (Appends old new (text ++ more))
written_after (Ok x) old now new text more first then_more = Appends-trans old now new text more first then_more
written_after (Err e) old now new text more first then_more = tt

pub cut_after : {A E : Type 0} (result : Result A E) (old now new : Option (List ℕ)) (text more : List ℕ) → Appends old now text
    → OnErr result (AppendsPart now new more) → OnErr result (AppendsPart old new (text ++ more))
cut_after (Ok x) old now new text more first part = tt
cut_after (Err e) old now new text more first part = part_more old now new text more first part

-- what is left from a place on is the element there, and those after it
left-at : {A : Type 0} (all : List A) (place : ℕ) (one : A) → place < length all → one ≡ get_or all place one
    → drop place all ≡ one ∷ drop (place + 1) all
left-at all place one below read = drop_more all place one below ∙ ap (λ it. it ∷ drop (place + 1) all) (sym read)

-- the record at a place is before
pub text-before : (shape : Shape) (number : Option ℕ) (refused : List Refusal) (place : ℕ) (one : Refusal) → place < length refused
    → one ≡ get_or refused place one → is_before number one ≡ true
    → refused_text shape number (drop place refused)
    ≡ text_of (refusal_in shape one ∷ []) ++ refused_text shape number (drop (place + 1) refused)
text-before shape number refused place one below read before =
    let rest = drop (place + 1) refused in
    let own = record_text (refusal_in shape one) in
    let later = refused_text shape number rest in
    ap (refused_text shape number) (left-at refused place one below read)
    ∙ ap (λ (xs : List Refusal). text_of (map (refusal_in shape) xs))
    (take_while-cons (is_before number) one rest
    ∙ ap (λ b. cond b (one ∷ take (count_before number rest) rest) []) before)
    ∙ ap (λ (t : List ℕ). t ++ later) (sym (append-nil own))

pub left-before : (number : Option ℕ) (refused : List Refusal) (place : ℕ) (one : Refusal) → place < length refused
    → one ≡ get_or refused place one → is_before number one ≡ true
    → refused_left number (drop place refused) ≡ refused_left number (drop (place + 1) refused)
left-before number refused place one below read before =
    let rest = drop (place + 1) refused in
    let next : 1 + count_before number rest ≡ suc (count_before number rest) = omega arith in
    ap (refused_left number) (left-at refused place one below read)
    ∙ ap (λ b. drop (cond b (1 + count_before number rest) 0) (one ∷ rest)) before ∙ ap (λ n. drop n (one ∷ rest)) next

-- it is after
pub text-after : (shape : Shape) (number : Option ℕ) (refused : List Refusal) (place : ℕ) (one : Refusal) → place < length refused
    → one ≡ get_or refused place one → is_before number one ≡ false → refused_text shape number (drop place refused) ≡ []
text-after shape number refused place one below read after =
    let rest = drop (place + 1) refused in
    ap (refused_text shape number) (left-at refused place one below read)
    ∙ ap (λ b. text_of (map (refusal_in shape) (take (cond b (1 + count_before number rest) 0) (one ∷ rest)))) after

-- if there is no record after them, all are before
all_before : (refused : List Refusal) → take (count_before None refused) refused ≡ refused
all_before [] = refl
all_before (one ∷ rest) = take_while-cons (is_before None) one rest ∙ ap (λ more. one ∷ more) (all_before rest)

-- what is written of refused records
refused_records : (shape : Shape) (roster : Listing) (refused : List Refusal) → flat_map (answer_records shape roster) (map Refused refused) ≡ map
    (refusal_in shape) refused
refused_records shape roster [] = refl
refused_records shape roster (one ∷ rest) = ap (λ more. refusal_in shape one ∷ more) (refused_records shape roster rest)

-- the refused records that are left come last
pub order-end : (shape : Shape) (roster : Listing) (found : List (Option Finding)) (place : ℕ) (refused : List Refusal)
    → text_of_answers shape roster (in_order found place [] refused) ≡ refused_text shape None refused
unfolding in_order
order-end shape roster found place refused =
    ap text_of (refused_records shape roster refused) ∙ ap (λ xs. text_of (map (refusal_in shape) xs)) (sym (all_before refused))

-- before an execution come the refused records of lower numbers, and after it the other answers
pub order-next : (shape : Shape) (roster : Listing) (found : List (Option Finding)) (place : ℕ) (execution : Execution) (rest : List Execution)
    (refused : List Refusal)
    → text_of_answers shape roster (in_order found place (execution ∷ rest) refused)
    ≡ refused_text shape (Some execution.number) refused
    ++ (text_of (answer_records shape roster (Judged execution (found_at found place)))
    ++ text_of_answers shape roster (in_order found (place + 1) rest (refused_left (Some execution.number) refused)))
unfolding in_order
order-next shape roster found place execution rest refused =
    let before = take (count_before (Some execution.number) refused) refused in
    let own = Judged execution (found_at found place) in
    let later = in_order found (suc place) rest (refused_left (Some execution.number) refused) in
    let next : suc place ≡ place + 1 = omega arith in
    let records = flat_map-append (answer_records shape roster) (map Refused before) (own ∷ later)
    ∙ ap (λ first. first ++ (answer_records shape roster own ++ flat_map (answer_records shape roster) later))
    (refused_records shape roster before) in
    ap text_of records
    ∙ flat_map-append record_text (map (refusal_in shape) before)
    (answer_records shape roster own ++ flat_map (answer_records shape roster) later)
    ∙ ap (λ text. text_of (map (refusal_in shape) before) ++ text)
    (flat_map-append record_text (answer_records shape roster own) (flat_map (answer_records shape roster) later)
    ∙ ap (λ n. text_of (answer_records shape roster own)
    ++ text_of_answers shape roster (in_order found n rest (refused_left (Some execution.number) refused))) next)

-- the same at a place among the executions
pub order-at : (shape : Shape) (roster : Listing) (found : List (Option Finding)) (place : ℕ) (executions : List Execution)
    (refused : List Refusal) (execution : Execution) → place < length executions → execution ≡ get_or executions place execution
    → text_of_answers shape roster (in_order found place (drop place executions) refused)
    ≡ refused_text shape (Some execution.number) refused
    ++ (text_of (answer_records shape roster (Judged execution (found_at found place)))
    ++ text_of_answers shape roster (in_order found (place + 1) (drop (place + 1) executions) (refused_left (Some execution.number) refused)))
order-at shape roster found place executions refused execution below read =
    ap (λ list. text_of_answers shape roster (in_order found place list refused)) (left-at executions place execution below read)
    ∙ order-next shape roster found place execution (drop (place + 1) executions) refused
