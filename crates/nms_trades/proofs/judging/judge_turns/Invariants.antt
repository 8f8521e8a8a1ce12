-- `judge_turns`: what holds in each turn of its loop.
use Rattle.std.proofs.Common.{◌≡◌, length, take}
use Rattle.nms_stream.specs.Tapes.{sizes_in}
use Rattle.nms_trades.specs.Found.{IsWeighed}
use Rattle.nms_trades.specs.Turns.{AreAnsweredIn}
use Rattle.nms_trades.proofs.judging.judge_turns.Given as goal

-- the tape stays, and the turns so far have their findings
abbrev pub invariant-loop-turn : goal.invariant-loop-turn
invariant-loop-turn l = record {
  tape : l.replay.tape ≡ l.fn.replay.tape;
  places : length l.answers.items ≡ length l.executions;
  answered : AreAnsweredIn (IsWeighed (sizes_in l.replay.tape.now) l.replay.tape.now.changes.items) l.executions l.answers.items
      (take l.turn-index l.turns);
}
