-- `is_flickering`: by the track of the participant in the symbol, and `flickers_by`.
use Rattle.std.proofs.Common.{◌<◌, ◌∙◌, ap, get_or, length, subst, sym}
use Rattle.std.proofs.lemmas.List.{length-map}
use Rattle.std.proofs.lemmas.Option.{slice_get-get_or}
use Rattle.nms_board.specs.Cells.{place_of}
use Rattle.nms_stream.specs.Tapes.{sizes_in}
use Rattle.nms_trades.specs.Parts.{part_at}
use Rattle.nms_trades.specs.Track.{IsTrack}
use Rattle.nms_trades.proofs.StandingFacts.{flickers_by}
use Rattle.nms_trades.proofs.TrackFacts.{has_at, has_within}
use Rattle.nms_trades.proofs.flickering.is_flickering.Goals as goal

pub returns : goal.returns
returns c =
    let sizes = sizes_in c.args.tape.now in
    let tape = c.args.tape.now.changes.items in
    let execution = c.args.execution.now in
    let part = c.args.row.now.part in
    let all = part_at sizes tape execution.sym part in
    let place = place_of part execution.sym in
    let listed : execution.sym < length sizes.lots =
    subst (λ n. execution.sym < n) (sym (length-map c.args.tape.now.roster.now.syms (λ entry. entry.1))) c.requires.on.sym in
    let has = c.requires.parts.parts execution.sym part listed c.requires.own in
    let there = slice_get-get_or c.args.tracks.now place c.index-tracks-place_of.result
    (has_within all (length tape) c.args.tracks.now place has) in
    let marks = c.deref.ensures.value
    ∙ ap (λ k. (get_or c.args.tracks.now k c.index-tracks-place_of.result).marks.items) c.place_of.ensures in
    c.any_version.ensures all (length tape)
    (subst (IsTrack all (length tape)) (sym marks)
    (has_at all (length tape) c.args.tracks.now place (get_or c.args.tracks.now place c.index-tracks-place_of.result) has there))
    c.requires.on.version
    ∙ flickers_by sizes tape execution.sym part execution.millionths execution.second_before execution.version c.args.side
