-- `note_parts`: one participant more, by `noted_more`.
use Rattle.std.proofs.Common.{◌≡◌, arith, refl, subst, sym}
use Rattle.nms_board.specs.Cells.{place_of}
use Rattle.nms_trades.specs.Parts.{part_held}
use Rattle.nms_trades.specs.Track.{AreNoted}
use Rattle.nms_trades.proofs.TrackFacts.{noted_more, one_part, some_is}
use Rattle.nms_trades.proofs.parts.note_parts.Goals as goal

pub loop-place-preserved : goal.loop-place-preserved
loop-place-preserved c =
    let is : c.unwrap.result ≡ c.loop-place.place =
    some_is c.new.result _ c.loop-place.place c.unwrap.result c.new.ensures c.unwrap.ensures in
    noted_more (λ p. place_of p c.args.sym) c.args.board.now.applied (λ p. part_held c.args.board.now c.args.sym p) c.loop-place.place
    c.args.tracks.now.items c.loop-place.tracks.items c.note_part.new.tracks.items (one_part c.args.sym) c.loop-place.invariant
    c.in_ok-note_part.ensures.count (c.in_ok-note_part.ensures.own c.args.sym c.loop-place.place refl (sym is))
    (λ other apart. c.in_ok-note_part.ensures.others other (rw is apart))

pub returns : goal.returns
returns c =
    let all : c.loop-place.place ≡ c.args.board.now.sizes.parts =
    omega (arith, c.loop-place-test.false, c.loop-place.auto.place-end, c.parts-place-end.ensures.count) in
    subst (λ n. AreNoted (λ p. place_of p c.args.sym) c.args.board.now.applied (λ p. part_held c.args.board.now c.args.sym p) n
    c.args.tracks.now.items c.loop-place.tracks.items) all c.loop-place.invariant
