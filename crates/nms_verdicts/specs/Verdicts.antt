-- What a verdict says of a plan: exactly what an audit finds on the plan's own version of the changes, for its own order, and
-- the place of the doubt. This product's own rule.
use Rattle.std.specs.Prelude.{◌≡◌, ◌<◌, ◌≤◌, List, length, Some, None}
use Rattle.nms_quote.specs.Tape.{Tape}
use Rattle.nms_quote.specs.declared.certificate.Cut.{Cut}
use Rattle.nms_quote.specs.declared.plan.Plan.{Plan}
use Rattle.nms_board.specs.View.{Seen}
use Rattle.nms_fee_book.specs.Fees.{Charges}
use Rattle.nms_fees.specs.Settings.{Settings}
use Rattle.nms_cert.specs.Doubts.{doubt_of}
use Rattle.nms_file_answers.specs.Audit.{seen_by}
use Rattle.nms_verdicts.specs.DoubtPlaces.{IsDoubtPlace}
use Rattle.nms_verdicts.specs.declared.verdict.Verdict.{Verdict}
use Rattle.nms_verdicts.specs.declared.verdict.Verdict.TheVariants as verdict

-- on a view: no doubt holds, or that doubt is the first that does, at that place
abbrev pub IsVerdictOn : Seen → Charges → Plan → List Cut → Verdict → Type 0
IsVerdictOn seen fees plan cuts verdict.Confirmed = doubt_of seen plan.order fees plan cuts ≡ None
IsVerdictOn seen fees plan cuts (verdict.Beyond changes) = ⊥
IsVerdictOn seen fees plan cuts (verdict.Doubted doubt place) =
    (doubt_of seen plan.order fees plan cuts ≡ Some doubt) × IsDoubtPlace seen plan.order fees plan cuts doubt place

-- on the plan's version of the changes, if it is not longer than they are
abbrev pub IsVerdict : Settings → Tape → Plan → List Cut → Verdict → Type 0
IsVerdict settings tape plan cuts (verdict.Beyond changes) = (length tape < plan.version) × (changes ≡ length tape)
IsVerdict settings tape plan cuts judged =
    (plan.version ≤ length tape) × IsVerdictOn (seen_by settings tape plan) settings.fees plan cuts judged
