-- `serve_live`: what it promises of a run that was made, by `ran` and `run_stopped`.
use Rattle.std.proofs.Common.{arith, ◌∙◌, map}
use Rattle.std.proofs.lemmas.Grind.{common_steps}
use Rattle.std.proofs.lemmas.List.{length-map}
use Rattle.nms_tool.proofs.LiveFacts.{ran, run_stopped}
use Rattle.nms_tool.proofs.living.serve_live.Goals as goal

pub returns-in-Ok-clause-done : goal.returns-in-Ok-clause-done
returns-in-Ok-clause-done g c =
    let texts = map (λ text. text.items) c.args.input.feeds.items in
    ran c.tell_run.result c.args.setup.now texts c.args.input.orders.items c.in-Ok.live
    (g.W.Write.contents c.args.answers.now) (g.W.Write.contents c.tell_run.new.answers)
    (length-map c.args.input.feeds.items (λ text. text.items) ∙ c.requires.feeds) c.requires.orders c.in-Ok.ensures.live
    c.tell_run.ensures.done

pub returns-in-Ok-clause-left : goal.returns-in-Ok-clause-left
returns-in-Ok-clause-left g c =
    let texts = map (λ text. text.items) c.args.input.feeds.items in
    run_stopped c.tell_run.result c.args.setup.now texts c.args.input.orders.items c.in-Ok.live
    (g.W.Write.contents c.args.answers.now) (g.W.Write.contents c.tell_run.new.answers)
    (length-map c.args.input.feeds.items (λ text. text.items) ∙ c.requires.feeds) c.requires.orders c.in-Ok.ensures.live
    c.tell_run.ensures.left

-- ---- goals that `grind` closes; the search that is tried before it takes longer

pub run_live-requires-clause-desks : goal.run_live-requires-clause-desks
run_live-requires-clause-desks g c = grind (arith, common_steps)
