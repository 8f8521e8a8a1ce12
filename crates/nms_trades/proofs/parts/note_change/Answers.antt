-- `note_change`: a withdrawal touches its participant in each symbol, a round lot each participant in its symbol, and another
-- change one of them.
use Rattle.std.proofs.Common.{◌==◌, slice_get, subst, sym}
use Rattle.std.proofs.lemmas.Bool.{and_parts, eqb-true}
use Rattle.nms_board.specs.Cells.{place_of}
use Rattle.nms_trades.specs.Parts.{part_held}
use Rattle.nms_trades.specs.Track.{IsNoted}
use Rattle.nms_trades.proofs.OkFacts.{map_ok, then_ok}
use Rattle.nms_trades.proofs.PartFacts.{apart_in, other_part, other_sym}
use Rattle.nms_trades.proofs.parts.note_change.Goals as goal

pub returns-in-Quote-clause-touched : goal.returns-in-Quote-clause-touched
returns-in-Quote-clause-touched c = λ s p in_syms in_parts touched.
    let both = and_parts (c.in-Quote.part == p) (c.in-Quote.sym == s) (rw c.in-Quote.is at touched) in
    c.note_part.ensures.own s p (sym (eqb-true c.in-Quote.sym s both.1)) (sym (eqb-true c.in-Quote.part p both.0))

pub returns-in-Quote-clause-others : goal.returns-in-Quote-clause-others
returns-in-Quote-clause-others c = λ s p in_syms in_parts kept.
    then_ok c.note_part.result (c.note_part.ensures.others (place_of p s)
    (apart_in c.args.board.now c.in-Quote.part c.in-Quote.sym p s c.stands_for_a_tape.ensures.shape.parts
    (rw c.in-Quote.is at c.requires.held)
    in_parts (rw c.in-Quote.is at kept)))

pub returns-in-State-clause-touched : goal.returns-in-State-clause-touched
returns-in-State-clause-touched c = λ s p in_syms in_parts touched.
    let both = and_parts (c.in-State.part == p) (c.in-State.sym == s) (rw c.in-State.is at touched) in
    c.note_part-in-State.ensures.own s p (sym (eqb-true c.in-State.sym s both.1)) (sym (eqb-true c.in-State.part p both.0))

pub returns-in-State-clause-others : goal.returns-in-State-clause-others
returns-in-State-clause-others c = λ s p in_syms in_parts kept.
    then_ok c.note_part-in-State.result (c.note_part-in-State.ensures.others (place_of p s)
    (apart_in c.args.board.now c.in-State.part c.in-State.sym p s c.stands_for_a_tape.ensures.shape.parts
    (rw c.in-State.is at c.requires.held)
    in_parts (rw c.in-State.is at kept)))

pub returns-in-Withdraw-clause-touched : goal.returns-in-Withdraw-clause-touched
returns-in-Withdraw-clause-touched c = λ s p in_syms in_parts touched.
    map_ok c.note_syms.result
    (λ are. subst (λ q. IsNoted c.args.board.now.applied (part_held c.args.board.now s q) (slice_get c.args.tracks.now.items (place_of q s))
    (slice_get c.note_syms.new.tracks.items (place_of q s))) (eqb-true c.in-Withdraw.part p (rw c.in-Withdraw.is at touched))
    (are.noted s in_syms)) c.note_syms.ensures

pub returns-in-Withdraw-clause-others : goal.returns-in-Withdraw-clause-others
returns-in-Withdraw-clause-others c = λ s p in_syms in_parts kept.
    map_ok c.note_syms.result
    (λ are. are.others (place_of p s) (λ k below. other_part c.args.board.now c.in-Withdraw.part k p s
    c.stands_for_a_tape.ensures.shape.parts (rw c.in-Withdraw.is at c.requires.held) in_parts (rw c.in-Withdraw.is at kept)))
    c.note_syms.ensures

pub returns-in-Lot-clause-touched : goal.returns-in-Lot-clause-touched
returns-in-Lot-clause-touched c = λ s p in_syms in_parts touched.
    map_ok c.note_parts.result
    (λ are. subst (λ q. IsNoted c.args.board.now.applied (part_held c.args.board.now q p) (slice_get c.args.tracks.now.items (place_of p q))
    (slice_get c.note_parts.new.tracks.items (place_of p q))) (eqb-true c.in-Lot.sym s (rw c.in-Lot.is at touched))
    (are.noted p in_parts)) c.note_parts.ensures

pub returns-in-Lot-clause-others : goal.returns-in-Lot-clause-others
returns-in-Lot-clause-others c = λ s p in_syms in_parts kept.
    map_ok c.note_parts.result
    (λ are. are.others (place_of p s) (λ k below. other_sym c.args.board.now k c.in-Lot.sym p s
    c.stands_for_a_tape.ensures.shape.parts below in_parts (rw c.in-Lot.is at kept)))
    c.note_parts.ensures
