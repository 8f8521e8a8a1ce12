-- `versions_rise_with_time`: all that it promises. A test that passes more passes no fewer from the front on.
use Rattle.std.proofs.Common.{arith, nat_le, nat_lt}
use Rattle.std.proofs.lemmas.Bool.Decides.{nat_tests}
use Rattle.nms_times.proofs.VersionFacts.{prefix_len-mono}
use Rattle.nms_times.proofs.laws.versions_rise_with_time.Goals as goal

pub returns-clause-at : goal.returns-clause-at
returns-clause-at c times t u later = prefix_len-mono (λ x. nat_le x t) (λ x. nat_le x u) (λ x h. grind (arith, nat_tests)) times

pub returns-clause-before : goal.returns-clause-before
returns-clause-before c times t u later = prefix_len-mono (λ x. nat_lt x t) (λ x. nat_lt x u) (λ x h. grind (arith, nat_tests)) times

pub returns-clause-between : goal.returns-clause-between
returns-clause-between c times t = prefix_len-mono (λ x. nat_lt x t) (λ x. nat_le x t) (λ x h. grind (arith, nat_tests)) times
