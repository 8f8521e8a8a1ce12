-- `push_line`: what becomes of the pieces at a line, by its kind.
use Rattle.std.proofs.Common.{ℕ, ◌++◌, ◌∙◌, List, Option, Some, None, ap, sym}
use Rattle.std.specs.List.{slice_range}
use Rattle.nms_verdicts.specs.Begun.{texts_of}
use Rattle.nms_verdicts.proofs.PieceFacts.{at_blank, at_inner, one_more}
use Rattle.nms_verdicts.proofs.pieces.push_line.Goals as goal

pub returns-in-Inner-clause-pieces : goal.returns-in-Inner-clause-pieces
returns-in-Inner-clause-pieces c = λ behind.
    let place = c.args.place in
    let text = c.args.text.now in
    rw c.in-Inner.is (ap (λ (part : List ℕ). texts_of c.args.pieces.now.items ++ behind (Some part))
    (at_inner text place.start place.end c.args.begun c.requires.begun c.requires.order
    ∙ ap (λ (start : ℕ). slice_range text start place.end) (sym c.opened.ensures)))

pub returns-in_ok-push_piece-in-End-clause-pieces : goal.returns-in_ok-push_piece-in-End-clause-pieces
returns-in_ok-push_piece-in-End-clause-pieces c = λ behind.
    let place = c.args.place in
    let text = c.args.text.now in
    rw c.in-End.is (one_more (texts_of c.args.pieces.now.items) (texts_of c.push_piece-in-End.new.pieces.items) _
    (slice_range text c.opened-in-End.result.start place.end) (behind None) c.in_ok-push_piece-in-End.ensures
    (at_inner text place.start place.end c.args.begun c.requires.begun c.requires.order
    ∙ ap (λ (start : ℕ). slice_range text start place.end) (sym c.opened-in-End.ensures)))

pub returns-in-Blank-clause-pieces : goal.returns-in-Blank-clause-pieces
returns-in-Blank-clause-pieces c = λ behind.
    rw c.in-Blank.is (ap (λ (part : Option (List ℕ)). texts_of c.args.pieces.now.items ++ behind part)
    (at_blank c.args.text.now c.args.place.start c.args.place.end c.args.begun c.requires.begun c.requires.order))
