-- `the_least_fault_is_read`: all that it promises, by `reads_least_fault`.
use Rattle.nms_lines.proofs.FaultsRead.{reads_least_fault}
use Rattle.nms_lines.proofs.laws.the_least_fault_is_read.Goals as goal

pub returns : goal.returns
returns c = reads_least_fault
