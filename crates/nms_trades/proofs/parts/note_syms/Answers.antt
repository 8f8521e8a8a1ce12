-- `note_syms`: one symbol more, by `noted_more`.
use Rattle.std.proofs.Common.{◌≡◌, arith, length, refl, subst, sym}
use Rattle.nms_board.specs.Cells.{place_of}
use Rattle.nms_trades.specs.Parts.{part_held}
use Rattle.nms_trades.specs.Track.{AreNoted}
use Rattle.nms_trades.proofs.TrackFacts.{noted_more, one_sym, some_is}
use Rattle.nms_trades.proofs.parts.note_syms.Goals as goal

pub loop-place-preserved : goal.loop-place-preserved
loop-place-preserved c =
    let is : c.unwrap.result ≡ c.loop-place.place =
    some_is c.new.result _ c.loop-place.place c.unwrap.result c.new.ensures c.unwrap.ensures in
    noted_more (λ s. place_of c.args.part s) c.args.board.now.applied (λ s. part_held c.args.board.now s c.args.part) c.loop-place.place
    c.args.tracks.now.items c.loop-place.tracks.items c.note_part.new.tracks.items (one_sym c.args.part) c.loop-place.invariant
    c.in_ok-note_part.ensures.count (c.in_ok-note_part.ensures.own c.loop-place.place c.args.part (sym is) refl)
    (λ other apart. c.in_ok-note_part.ensures.others other (rw is apart))

pub returns : goal.returns
returns c =
    let all : c.loop-place.place ≡ length c.args.board.now.sizes.lots =
    omega (
      arith,
      c.loop-place-test.false,
      c.loop-place.auto.place-end,
      c.len-place-end.ensures,
      c.args.tracks.now.ok.0,
      c.requires.count,
    ) in
    subst (λ n. AreNoted (λ s. place_of c.args.part s) c.args.board.now.applied (λ s. part_held c.args.board.now s c.args.part) n
    c.args.tracks.now.items c.loop-place.tracks.items) all c.loop-place.invariant
