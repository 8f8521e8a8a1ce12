-- `word_of`: that its number fits, by `below_seven_bytes`.
use Rattle.std.proofs.Common.{ℕ, ◌^◌, ◌<◌, ◌≤◌, arith, lit<}
use Rattle.std.proofs.lemmas.Grind.{common_steps}
use Rattle.std.proofs.Math.Nat.{pow-le-pow_right}
use Rattle.nms_quote.proofs.name_table.word_of.Goals as goal

below_seven_bytes : (n i : ℕ) → n < 256 ^ i → i ≤ 7 → n < 256 ^ 7
below_seven_bytes n i h le = omega (arith, pow-le-pow_right {n = 256} (lit< tt) {i = i} {j = 7} le)

pub overflow_mul-word : goal.overflow_mul-word
overflow_mul-word c = omega (arith, below_seven_bytes c.loop-c.word c.loop-c.c-index c.loop-c.invariant.small (omega arith))

pub overflow_add-word : goal.overflow_add-word
overflow_add-word c = omega (arith, below_seven_bytes c.loop-c.word c.loop-c.c-index c.loop-c.invariant.small (omega arith))

-- ---- goals that `grind` closes; the search that is tried before it takes longer

pub returns-then-c-eq0 : goal.returns-then-c-eq0
returns-then-c-eq0 c = grind (arith, common_steps)

pub loop-c-preserved : goal.loop-c-preserved
loop-c-preserved c = grind (arith, common_steps)
