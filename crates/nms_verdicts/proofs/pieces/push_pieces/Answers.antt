-- `push_pieces`: by `taken_more` and `all_taken`.
use Rattle.std.proofs.Common.{ℕ, ◌≡◌, ◌+◌, ◌-◌, ◌≤◌, ◌∙◌, List, ap, arith, drop, length, length-drop, take}
use Rattle.std.proofs.lemmas.List.{take_rest}
use Rattle.nms_verdicts.specs.Pieces.{first_length}
use Rattle.nms_verdicts.proofs.PieceFacts.{all_taken, taken_more}
use Rattle.nms_verdicts.proofs.pieces.push_pieces.Goals as goal

pub loop-start-preserved : goal.loop-start-preserved
loop-start-preserved c =
    let text = c.args.text.now in
    let start = c.loop-start.start in
    let long = c.line_length.ensures in
    let rest : take (length text - start) (drop start text) ≡ drop start text = take_rest text start in
    let inside : start + c.line_length.result ≤ length text =
    omega (arith, long.within, ap (λ (list : List ℕ). length list) rest, length-drop start text, c.loop-start-test.true) in
    taken_more text c.args.pieces.now.items c.loop-start.pieces.items c.push_line.new.pieces.items start (start + c.line_length.result)
    c.loop-start.line c.loop-start.begun c.in_ok-begun.begun c.in_ok-kind.kind c.loop-start.invariant c.loop-start-test.true
    (ap (λ (size : ℕ). start + size) (long.length ∙ ap first_length rest)) (omega (arith, long.some))
    inside c.in_ok-kind.ensures c.in_ok-begun.ensures.next
    c.in_ok-begun.ensures.pieces

pub returns : goal.returns
returns c =
    all_taken c.args.text.now c.args.pieces.now.items c.loop-start.pieces.items c.push_piece.new.pieces.items c.loop-start.start
    c.loop-start.line c.loop-start.begun c.loop-start.invariant c.loop-start-test.false c.in_ok-push_piece.ensures
