-- `Boards::ranked`: clauses `ranked`, `there` and `part`, by `found_is` and `held_parts`.
use Rattle.std.proofs.Common.{◌<◌, ◌≤◌, List, length, sym, ap, ◌∙◌}
use Rattle.std.proofs.lemmas.Option.{MatchOption-at_none}
use Rattle.std.specs.Option.{option_and_then}
use Rattle.nms_board.specs.Shown.{row_held, rows_held}
use Rattle.nms_board.specs.declared.row.Row.{Row}
use Rattle.nms_board.proofs.ListLemmas.{found_is}
use Rattle.nms_board.proofs.PartLemmas.{held_parts}
use Rattle.nms_board.proofs.board.Boards.ranked.Goals as goal

pub returns-in-Some-clause-ranked : goal.returns-in-Some-clause-ranked
returns-in-Some-clause-ranked c = c.row.ensures
    ∙ sym (c.part_ranked.ensures.ranked ∙ ap (option_and_then (row_held c.args.self.now c.args.sym c.args.side)) c.in-Some.is)

pub returns-in-Some-clause-there : goal.returns-in-Some-clause-there
returns-in-Some-clause-there c = rw (returns-in-Some-clause-ranked c) c.part_ranked.ensures.there

pub returns-in-Some-clause-part : goal.returns-in-Some-clause-part
returns-in-Some-clause-part c =
    rw (returns-in-Some-clause-ranked c)
    (found_is (λ (row : Row). row.part < c.args.self.now.sizes.parts) _ (rows_held c.args.self.now c.args.sym c.args.side)
    (held_parts c.args.self.now c.args.sym c.args.side))

pub returns-in-None-clause-ranked : goal.returns-in-None-clause-ranked
returns-in-None-clause-ranked c = sym (c.part_ranked.ensures.ranked
    ∙ ap (option_and_then (row_held c.args.self.now c.args.sym c.args.side)) c.in-None.is)

pub returns-in-None-clause-there : goal.returns-in-None-clause-there
returns-in-None-clause-there c =
    let rows : List Row = rows_held c.args.self.now c.args.sym c.args.side in
    MatchOption-at_none (length rows ≤ c.args.at) (λ (row : Row). c.args.at < length rows) (sym (returns-in-None-clause-ranked c))
    c.part_ranked.ensures.there
