-- `note_all`: one symbol more, by `noted_more`.
use Rattle.std.proofs.Common.{◌≡◌, ◌∙◌, arith, length, subst, sym}
use Rattle.nms_board.specs.Shown.{seen_on}
use Rattle.nms_trades.specs.Bests.{limits_of}
use Rattle.nms_trades.specs.Track.{AreNoted}
use Rattle.nms_trades.proofs.TrackFacts.{noted_more, some_is}
use Rattle.nms_trades.proofs.bests.note_all.Goals as goal

pub loop-place-preserved : goal.loop-place-preserved
loop-place-preserved c =
    let is : c.unwrap.result ≡ c.loop-place.place =
    some_is c.new.result _ c.loop-place.place c.unwrap.result c.new.ensures c.unwrap.ensures in
    noted_more (λ k. k) c.args.board.now.applied (λ s. limits_of (seen_on c.args.board.now s)) c.loop-place.place c.args.bests.now.items
    c.loop-place.bests.items c.note_sym.new.bests.items (λ i j same. same) c.loop-place.invariant c.in_ok-note_sym.ensures.count
    (c.in_ok-note_sym.ensures.own c.loop-place.place (sym is)) (λ other apart. c.in_ok-note_sym.ensures.others other (λ same. apart
    (same ∙ is)))

pub returns : goal.returns
returns c =
    let all : c.loop-place.place ≡ length c.args.bests.now.items =
    omega (arith, c.loop-place-test.false, c.loop-place.auto.place-end, c.len-place-end.ensures, c.args.bests.now.ok.0) in
    subst (λ n. AreNoted (λ s. s) c.args.board.now.applied (λ s. limits_of (seen_on c.args.board.now s)) n c.args.bests.now.items
    c.loop-place.bests.items) all c.loop-place.invariant
