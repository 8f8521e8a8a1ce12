-- `each_change_is_a_line`: by `after_changes` and `begun_changes`.
use Rattle.nms_serving.proofs.ChangeLines.{after_changes, begun_changes}
use Rattle.nms_serving.proofs.resuming.each_change_is_a_line.Goals as goal

pub returns-clause-behind : goal.returns-clause-behind
returns-clause-behind c = after_changes c.args.roster.now
    (record { parts = c.part_names_are_formed.ensures; syms = c.symbol_names_are_formed.ensures })

pub returns-clause-begun : goal.returns-clause-begun
returns-clause-begun c = begun_changes c.args.roster.now
    (record { parts = c.part_names_are_formed.ensures; syms = c.symbol_names_are_formed.ensures })
