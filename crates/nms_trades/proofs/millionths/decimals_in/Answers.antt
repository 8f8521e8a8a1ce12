-- `decimals_in`: clause `high`, by `scaled_below`.
use Rattle.std.proofs.Common.{ℕ, ◌^◌, ◌<◌, ◌≤◌, arith, length}
use Rattle.nms_trades.proofs.PowerFacts.{scaled_below}
use Rattle.nms_trades.proofs.millionths.decimals_in.Goals as goal

below_one_dollar : {n : ℕ} → n < 10 ^ 6 → n ≤ 999999
below_one_dollar h = omega arith

pub returns-clause-high : goal.returns-clause-high
returns-clause-high c =
    rw c.pow.ensures (below_one_dollar (scaled_below c.in_ok-number.number (length c.args.text.now) 6 c.in_ok-number.ensures.by_length
    c.in_ok-number.ensures.within))
