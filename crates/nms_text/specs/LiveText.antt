-- The result of a live run, as text: the length of the tape, and each order's closing answer. This product's own rule.
use Rattle.std.specs.Prelude.{ℕ, List, [], ◌∷◌, codes}
use Rattle.std.specs.List.{flat_map}
use Rattle.std.specs.Fmt.{decimal}
use Rattle.nms_quote.specs.Roster.{Listing}
use Rattle.nms_lines.specs.Layout.{Record}
use Rattle.nms_lines.specs.PlanText.{plan_records}
use Rattle.nms_quote.specs.declared.answer.Answer.{Answer}

-- TAPE,length
abbrev pub tape_record : ℕ → Record
tape_record taken = codes "TAPE" ∷ decimal taken ∷ []

-- ANSWER,desk,number
abbrev pub answer_head : Answer → Record
answer_head answer = codes "ANSWER" ∷ decimal answer.desk ∷ decimal answer.number ∷ []

-- an answer: its desk and number, then its plan with the certificate
abbrev pub answer_records : Listing → Answer → List Record
answer_records roster answer = answer_head answer ∷ plan_records roster answer.plan answer.certificate.items

-- the tape's length, then the closing answers in order of the orders
abbrev pub live_records : Listing → ℕ → List Answer → List Record
live_records roster taken closing = tape_record taken ∷ flat_map (answer_records roster) closing
