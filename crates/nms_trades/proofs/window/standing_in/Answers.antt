-- `standing_in`: with a window of one version by `own_in`, else by the track of the symbol.
use Rattle.std.proofs.Common.{◌∙◌, ap, get_or, length, subst, sym}
use Rattle.std.proofs.lemmas.Option.{slice_get-get_or}
use Rattle.nms_stream.specs.Tapes.{sizes_in}
use Rattle.nms_trades.specs.Bests.{best_at}
use Rattle.nms_trades.specs.Track.{IsTrack}
use Rattle.nms_trades.proofs.OwnFacts.{own_in}
use Rattle.nms_trades.proofs.TrackFacts.{has_at, has_within}
use Rattle.nms_trades.proofs.window.standing_in.Goals as goal

pub returns-then-is_alone : goal.returns-then-is_alone
returns-then-is_alone c =
    let sizes = sizes_in c.args.tape.now in
    c.requires.own
    ∙ own_in sizes c.args.tape.now.changes.items c.args.execution.now c.args.found.now.passed.items (sym c.is_alone.ensures ∙ c.if-is_alone.true)
    (λ s tape n side. c.rows_have_one_rank_order.ensures.in_order s tape n side) c.requires.found.passed

pub returns : goal.returns
returns c =
    let sizes = sizes_in c.args.tape.now in
    let tape = c.args.tape.now.changes.items in
    let symbol = c.args.execution.now.sym in
    let all = best_at sizes tape symbol in
    let has = c.requires.ready (sym c.is_alone.ensures ∙ c.if-is_alone.false) in
    let there = slice_get-get_or c.args.bests.now symbol c.index-bests-from.result
    (has_within all (length tape) c.args.bests.now symbol has) in
    let marks = c.deref.ensures.value
    ∙ ap (λ k. (get_or c.args.bests.now k c.index-bests-from.result).marks.items) (c.from.ensures ∙ c.get.ensures.place) in
    c.standing_over.ensures sizes tape (length tape)
    (subst (IsTrack all (length tape)) (sym marks)
    (has_at all (length tape) c.args.bests.now symbol (get_or c.args.bests.now symbol c.index-bests-from.result) has there))
    c.requires.on.last
