-- `the_least_fault_is_read`: the law, by `reads_least_fault`.
use Rattle.nms_fees.proofs.TextFaults.{reads_least_fault}
use Rattle.nms_fees.proofs.laws.the_least_fault_is_read.Goals as goal

pub returns : goal.returns
returns c = reads_least_fault
