-- `show_help`: clause `cut`, by `text_cut`.
use Rattle.std.proofs.Common.{◌≡◌, refl}
use Rattle.std.specs.Io.KnownBytes.{Appends}
use Rattle.nms_command.specs.declared.ending.Ending.TheVariants as ending
use Rattle.nms_command.proofs.FailedFacts.{text_cut}
use Rattle.nms_command.proofs.serving.show_help.Goals as goal

pub returns-in-Err-clause-cut : goal.returns-in-Err-clause-cut
returns-in-Err-clause-cut g c =
    let old = g.W.Write.contents c.args.answers.now in
    text_cut (λ whole ends. (ends ≡ ending.Done) × Appends old whole c.args.help.now) old (g.W.Write.contents c.write_whole.new.writer)
    c.args.help.now ending.Done (λ whole written. (refl, written)) c.in-Err.ensures.part
