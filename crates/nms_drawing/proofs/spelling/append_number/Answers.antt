-- `append_number`: each turn appends a digit, by `last_turn`, `next_turn` and `no_turn`.
use Rattle.std.proofs.Common.{◌≡◌, ◌++◌, ◌∙◌, arith}
use Rattle.nms_drawing.specs.Spelling.{number_text}
use Rattle.nms_drawing.proofs.SpellingLemmas.{last_turn, next_turn, no_turn}
use Rattle.nms_drawing.proofs.spelling.append_number.Goals as goal

pub returns-then-left-lt32 : goal.returns-then-left-lt32
returns-then-left-lt32 c = c.in_ok-push.ensures.items
    ∙ last_turn c.loop.out.items (c.args.out.now.items ++ number_text c.args.number) c.loop.counter c.loop.left c.loop-test.true c.if-left-lt32.true
    c.loop.invariant

pub loop-preserved : goal.loop-preserved
loop-preserved c = rw c.in_ok-push-2.ensures.items
    (next_turn c.loop.out.items (c.args.out.now.items ++ number_text c.args.number) c.loop.counter c.loop.left c.loop-test.true
    (omega (arith, c.if-left-lt32.false)) c.loop.invariant)

pub returns : goal.returns
returns c = no_turn c.loop.out.items (c.args.out.now.items ++ number_text c.args.number) c.loop.counter c.loop.left
    (omega (arith, c.loop-test.false)) c.loop.invariant
