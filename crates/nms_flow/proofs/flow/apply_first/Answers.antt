-- `apply_first`: clause `stands` and the call of `apply_all`, by `all_back` and `first_of_two`.
use Rattle.std.proofs.Common.{arith, ◌≡◌, ◌-◌, ◌++◌, true, take, ap, sym, subst, ◌∙◌, append_assoc}
use Rattle.std.proofs.lemmas.Grind.{common_steps}
use Rattle.std.specs.Prelude.{All}
use Rattle.std.proofs.lemmas.List.{map-append}
use Rattle.nms_quote.specs.Roster.{Sizes, holds}
use Rattle.nms_quote.specs.Tape.{Tape}
use Rattle.nms_quote.specs.declared.marked.Marked.{Marked}
use Rattle.nms_board.specs.Cells.{StandsFor}
use Rattle.nms_flow.specs.Run.{changes_in}
use Rattle.nms_flow.proofs.ListFacts.{all_back, first_of_two}
use Rattle.nms_flow.proofs.flow.apply_first.Goals as goal

pub apply_all-requires-2-clause-held : goal.apply_all-requires-2-clause-held
apply_all-requires-2-clause-held c =
    subst (λ (s : Sizes). All (λ marked. holds s marked.change ≡ true) (take (c.args.count - c.min-first.result) c.as_slices.result.1.now))
    (sym c.apply_all.ensures.sizes)
    (all_back (λ (marked : Marked). holds c.args.board.now.sizes marked.change ≡ true) c.as_slices.result.0.now c.as_slices.result.1.now
    c.args.queue.now.items (c.args.count - c.min-first.result) c.as_slices.ensures.items c.requires.held)

pub returns-clause-stands : goal.returns-clause-stands
returns-clause-stands c tape h =
    let front = take c.min-first.result c.as_slices.result.0.now in
    let back = take (c.args.count - c.min-first.result) c.as_slices.result.1.now in
    subst (StandsFor c.apply_all-2.new.board)
    (append_assoc tape (changes_in front) (changes_in back)
    ∙ ap (λ (t : Tape). tape ++ t) (sym (map-append (λ (m : Marked). m.change) front back)
    ∙ ap changes_in (first_of_two c.as_slices.result.0.now c.as_slices.result.1.now c.args.count c.min-first.result c.min-first.ensures
    ∙ ap (take c.args.count) c.as_slices.ensures.items)))
    (c.apply_all-2.ensures.stands _ (c.apply_all.ensures.stands tape h))

-- ---- goals that `grind` closes; the search that is tried before it takes longer

pub slice_bounds-apply_all-length : goal.slice_bounds-apply_all-length
slice_bounds-apply_all-length c = grind (arith, common_steps)

pub returns-clause-applied : goal.returns-clause-applied
returns-clause-applied c = grind (arith, common_steps)

pub apply_all-requires-2-clause-room : goal.apply_all-requires-2-clause-room
apply_all-requires-2-clause-room c = grind (arith, common_steps)

pub slice_bounds-apply_all-end : goal.slice_bounds-apply_all-end
slice_bounds-apply_all-end c = grind (arith, common_steps)

pub apply_all-requires-clause-room : goal.apply_all-requires-clause-room
apply_all-requires-clause-room c = grind (arith, common_steps)
