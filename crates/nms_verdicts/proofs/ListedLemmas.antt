-- Quotations that are listed in rank order.
use Rattle.std.proofs.Common.{◌≡◌, ◌+◌, ◌-◌, ◌<◌, ◌≤◌, ◌++◌, ◌∷◌, [], ℕ, suc, Bool, List, Option, Some, ap, length, nat_lt, refl, sym, ◌∙◌}
use Rattle.std.proofs.Common.{arith, false, if◌then◌else◌, map, true}
use Rattle.std.specs.List.{cons_option, filter_map, range_with_len}
use Rattle.std.proofs.lemmas.Bool.Decides.{nat_tests}
use Rattle.std.proofs.lemmas.List.{append_assoc}
use Rattle.nms_quote.specs.Tape.{Tape}
use Rattle.nms_quote.specs.declared.certificate.Cut.{Cut}
use Rattle.nms_quote.specs.declared.plan.Plan.{Plan}
use Rattle.nms_board.specs.View.{Seen}
use Rattle.nms_board.specs.declared.row.Row.{Row}
use Rattle.nms_fees.specs.Settings.{Settings}
use Rattle.nms_file_answers.specs.Audit.{seen_by}
use Rattle.nms_verdicts.specs.Listed.{AreListed, is_beyond, listed_by, listed_on}
use Rattle.nms_verdicts.specs.Verdicts.{IsVerdict}
use Rattle.nms_verdicts.specs.declared.plan_report.Quotation.{Quotation}
use Rattle.nms_verdicts.specs.declared.plan_report.Said.{Said}
use Rattle.nms_verdicts.specs.declared.verdict.Verdict.{Verdict}
use Rattle.nms_verdicts.specs.declared.verdict.Verdict.TheVariants as verdict

-- one place more of the order
pub listed_turn : (out whole : List Row) (f : ℕ → Option Row) (place end : ℕ) (row : Row) → place < end → f place ≡ Some row
    → out ++ filter_map f (range_with_len place (end - place)) ≡ whole
    → (out ++ row ∷ []) ++ filter_map f (range_with_len (place + 1) (end - (place + 1))) ≡ whole
listed_turn out whole f place end row below at is =
    let more : end - place ≡ suc (end - (place + 1)) = omega (arith, below) in
    let rest : List Row = filter_map f (range_with_len (place + 1) (end - (place + 1))) in
    append_assoc out (row ∷ []) rest
    ∙ ap (λ (rows : List Row). out ++ rows)
    (sym (ap (λ (n : ℕ). filter_map f (range_with_len place n)) more ∙ ap (λ (o : Option Row). cons_option o rest) at)) ∙ is

-- a verdict is that the changes do not have the plan's version exactly if they do not
beyond_is : (settings : Settings) (tape : Tape) (plan : Plan) (cuts : List Cut) (judged : Verdict)
    → IsVerdict settings tape plan cuts judged → is_beyond judged ≡ nat_lt (length tape) plan.version
beyond_is settings tape plan cuts verdict.Confirmed is = let within : plan.version ≤ length tape = is.0 in grind (arith, nat_tests)
beyond_is settings tape plan cuts (verdict.Beyond changes) is = let over : length tape < plan.version = is.0 in grind (arith, nat_tests)
beyond_is settings tape plan cuts (verdict.Doubted doubt place) is =
    let within : plan.version ≤ length tape = is.0 in grind (arith, nat_tests)

listed_if : (beyond : Bool) (plan : Plan) (seen own : Seen) → (beyond ≡ false → seen ≡ own)
    → (if beyond then [] else listed_on seen plan) ≡ (if beyond then [] else listed_on own plan)
listed_if true plan seen own same = refl
listed_if false plan seen own same = ap (λ (s : Seen). listed_on s plan) (same refl)

-- what is said with a verdict on that version lists its quotations
pub are_listed : (settings : Settings) (tape : Tape) (plan : Plan) (cuts : List Cut) (judged : Verdict) (seen : Seen) (said : Said)
    → IsVerdict settings tape plan cuts judged → (is_beyond judged ≡ false → seen ≡ seen_by settings tape plan)
    → said.is_beyond ≡ is_beyond judged
    → map (λ (quotation : Quotation). quotation.row) said.quotations.items ≡ listed_by judged seen plan → AreListed settings tape plan said
are_listed settings tape plan cuts judged seen said is shows beyond listed =
    let over = beyond_is settings tape plan cuts judged is in
    record {
      beyond = beyond ∙ over;
      rows = rw (← over) (listed ∙ listed_if (is_beyond judged) plan seen (seen_by settings tape plan) shows);
    }
