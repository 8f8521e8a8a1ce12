-- `tell_line`: clause `cut`, by `text_cut`.
use Rattle.std.proofs.Common.{arith, ◌≡◌, ◌++◌, ◌∷◌, [], refl}
use Rattle.std.proofs.lemmas.Grind.{common_steps}
use Rattle.std.specs.Io.KnownBytes.{Appends}
use Rattle.nms_command.proofs.FailedFacts.{text_cut}
use Rattle.nms_command.proofs.check.tell_line.Goals as goal

pub returns-in-Err-clause-cut : goal.returns-in-Err-clause-cut
returns-in-Err-clause-cut g c =
    let old = g.W.Write.contents c.args.answers.now in
    let text = c.args.head.now ++ (c.args.code.now ++ 10 ∷ []) in
    text_cut (λ whole ends. (ends ≡ c.args.ending) × Appends old whole text) old (g.W.Write.contents c.write_line.new.writer) text
    c.args.ending (λ whole written. (refl, written)) c.in-Err.ensures.part

-- ---- goals that `grind` closes; the search that is tried before it takes longer

pub returns-in-Ok-clause-told : goal.returns-in-Ok-clause-told
returns-in-Ok-clause-told g c = grind (arith, common_steps)
