-- `list_through`: all that it promises, by `shows_through`.
use Rattle.std.proofs.Common.{arith}
use Rattle.std.proofs.lemmas.Grind.{common_steps}
use Rattle.nms_scripts.proofs.ScriptFacts.{shows_through}
use Rattle.nms_scripts.proofs.script_record.list_through.Goals as goal

pub returns : goal.returns
returns c = shows_through c.args.roster.now c.args.flow.now c.args.flow.now c.args.desk c.args.sym c.args.price c.look-view.result
    c.args.out.now.items c.tell_through.new.out.items
    (c.look-view.ensures.went c.args.desk) c.in_ok-tell_through.ensures

-- ---- goals that `grind` closes; the search that is tried before it takes longer

pub tell_through-requires-clause-parts : goal.tell_through-requires-clause-parts
tell_through-requires-clause-parts c = grind (arith, common_steps)
