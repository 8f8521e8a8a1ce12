-- The records that each step of a script adds. This product's own rule.
use Rattle.std.specs.Prelude.{ℕ, List, [], ◌∷◌, Ok, Err}
use Rattle.nms_lines.specs.Layout.{Record}
use Rattle.nms_flow.specs.Faults as step_faults
use Rattle.nms_flow.specs.Run.{Answer}
use Rattle.nms_flow.specs.declared.reply.Reply.TheVariants as reply
use Rattle.nms_text.specs.Answers.{published_record, refusal, taken_record, told_record}

-- the records of a step's answer. A sent change adds none, and what a look shows is added by the record that looked
abbrev pub told_by : ℕ → Answer → List Record
told_by number (Ok reply.Sent) = []
told_by number (Ok (reply.Taken version)) = taken_record version ∷ []
told_by number (Ok (reply.Published version)) = published_record version ∷ []
told_by number (Ok (reply.Told desk version)) = told_record desk version ∷ []
told_by number (Ok (reply.Seen view)) = []
told_by number (Err fault) = refusal number (step_faults.code_of fault) ∷ []
