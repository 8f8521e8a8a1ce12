-- `judge_standings`: clause `found`, by what `turns_of` and `judge_turns` promise.
use Rattle.nms_trades.proofs.judging.judge_standings.Goals as goal

pub returns-in-Ok-judge_turns-clause-found : goal.returns-in-Ok-judge_turns-clause-found
returns-in-Ok-judge_turns-clause-found c =
    rw (← c.in_ok-replay.ensures.tape) (c.in-Ok-judge_turns.ensures.answered (rw c.deref-2.ensures.value c.in-Ok.ensures))
