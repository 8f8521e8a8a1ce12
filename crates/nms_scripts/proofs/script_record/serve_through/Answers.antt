-- `serve_through`: all that it promises, by `shows_nothing_through` and `nothing_through`.
use Rattle.std.proofs.Common.{arith, refl, sym}
use Rattle.std.proofs.lemmas.Grind.{common_steps}
use Rattle.nms_board.specs.Shown.{seen_on}
use Rattle.nms_scripts.proofs.ScriptFacts.{shows_nothing_through}
use Rattle.nms_scripts.proofs.ThroughFacts.{nothing_through}
use Rattle.nms_scripts.proofs.script_record.serve_through.Goals as goal

pub returns : goal.returns
returns c =
    let seen = seen_on c.args.flow.now.board c.args.sym in
    shows_nothing_through c.args.roster.now c.args.flow.now c.args.flow.now c.args.desk c.args.sym c.args.price seen _ _
    (c.best-rows.ensures.went c.args.desk)
    (nothing_through seen c.args.price c.best-rows.result.bid c.best-rows.result.offer c.best-rows.ensures.bid c.best-rows.ensures.offer
    (c.is_beyond.ensures.bid c.if-is_beyond.false) (c.is_beyond.ensures.offer c.if-is_beyond.false))
    (c.in_ok-tell_through_head.ensures seen refl (sym c.published.ensures.count))

-- ---- goals that `grind` closes; the search that is tried before it takes longer

pub best-rows-requires : goal.best-rows-requires
best-rows-requires c = grind (arith, common_steps)
