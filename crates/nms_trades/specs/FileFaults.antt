-- The code that is printed of each fault of judging a file of executions, the exit status of a call that it ends, and which of
-- the two files it is about. This product's own rule.
use Rattle.std.specs.Prelude.{ℕ, Bool, true, false, List, codes}
use Rattle.nms_lines.specs.RecordFaults as record_faults
use Rattle.nms_files.specs.Faults.{code_of_changes, status_of_changes}
use Rattle.nms_codes.specs.Codes.{code_of_show, code_of_times, status_of_show, status_of_times}
use Rattle.nms_trades.specs.declared.trades_fault.TradesFault.{TradesFault}
use Rattle.nms_trades.specs.declared.trades_fault.TradesFault.TheVariants as fault

abbrev pub file_code : TradesFault → List ℕ
file_code (fault.Changes refused) = code_of_changes refused
file_code (fault.Executions refused) = record_faults.code_of refused
file_code (fault.Times refused) = code_of_times refused
file_code (fault.Symbols refused) = code_of_times refused
file_code (fault.Board refused) = codes "B1"
file_code fault.TooLong = codes "E3"
file_code (fault.Show refused) = code_of_show refused

abbrev pub file_status : TradesFault → ℕ
file_status (fault.Changes refused) = status_of_changes refused
file_status (fault.Executions refused) = record_faults.status_of refused
file_status (fault.Times refused) = status_of_times refused
file_status (fault.Symbols refused) = status_of_times refused
file_status (fault.Board refused) = 5
file_status fault.TooLong = 6
file_status (fault.Show refused) = status_of_show refused

-- the file of executions, and neither that of the changes nor one of times, memory or the output
abbrev pub is_of_executions : TradesFault → Bool
is_of_executions (fault.Changes refused) = false
is_of_executions (fault.Executions refused) = true
is_of_executions (fault.Times refused) = false
is_of_executions (fault.Symbols refused) = false
is_of_executions (fault.Board refused) = false
is_of_executions fault.TooLong = true
is_of_executions (fault.Show refused) = false
