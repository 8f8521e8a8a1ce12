-- `lots_of`: the turns of its loop.
use Rattle.std.proofs.Common.{◌≡◌, get_or, refl, arith}
use Rattle.std.proofs.lemmas.Grind.{common_steps}
use Rattle.std.proofs.lemmas.List.{take_more, length-map}
use Rattle.std.proofs.lemmas.Option.{get_or_from_slice_get, slice_get-map}
use Rattle.nms_quote.specs.Roster.{sizes_of}
use Rattle.nms_board.proofs.board.lots_of.Goals as goal

-- the lot that was pushed is the next
pub loop-place-preserved : goal.loop-place-preserved
loop-place-preserved c =
    let syms = c.args.roster.now.syms in
    let lots = (sizes_of c.args.roster.now).lots in
    let place : c.unwrap.result ≡ c.loop-place.place = grind (arith, common_steps) in
    let next : get_or lots c.loop-place.place 0 ≡ c.lot_of.result =
    get_or_from_slice_get lots c.loop-place.place c.lot_of.result 0
    (rw (slice_get-map (λ entry. entry.1) syms c.loop-place.place, ← place) c.lot_of.ensures) in
    let more = take_more lots c.loop-place.place 0 (omega (arith, length-map syms (λ entry. entry.1))) in
    rw (c.in_ok-push.ensures.items, c.loop-place.invariant, more, next) refl

-- ---- goals that `grind` closes; the search that is tried before it takes longer

pub returns-clause-within : goal.returns-clause-within
returns-clause-within c = grind (arith, common_steps)

pub returns-clause-lots : goal.returns-clause-lots
returns-clause-lots c = grind (arith, common_steps)

pub lot_of-requires : goal.lot_of-requires
lot_of-requires c = grind (arith, common_steps)
