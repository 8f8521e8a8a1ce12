-- `append_causes`: what holds in each turn of its loop.
use Rattle.std.proofs.Common.{◌≡◌, ◌++◌, drop, take}
use Rattle.nms_trades.specs.Lines.{all_causes, plus_words}
use Rattle.nms_trades.proofs.LineFacts.{is_some}
use Rattle.nms_trades.proofs.line.append_causes.Given as goal

-- the causes so far were appended, and whether there was one is known
abbrev pub invariant-loop-place : goal.invariant-loop-place
invariant-loop-place l =
    let words = plus_words l.execution.claims l.crossed l.sums.helped l.flickering (take l.place all_causes) in
    (l.out.items ≡ l.fn.out.items ++ drop 1 words) × (l.some ≡ is_some words)
