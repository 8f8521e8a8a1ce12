-- The codes by which faults are reported, and the exit status of a program that one of them ends: 1 for files, 5 for
-- memory, 6 for lines and lengths. This product's own rule.
use Rattle.std.specs.Prelude.{ℕ, List, codes}
use Rattle.nms_lines.specs.Faults as line_faults
use Rattle.nms_lines.specs.RecordFaults as record_faults
use Rattle.nms_files.specs.declared.changes_fault.ChangesFault.{ChangesFault}
use Rattle.nms_files.specs.declared.changes_fault.ChangesFault.TheVariants as changes_fault
use Rattle.nms_files.specs.declared.feed_fault.FeedFault.{FeedFault}
use Rattle.nms_files.specs.declared.feed_fault.FeedFault.TheVariants as feed_fault
use Rattle.nms_files.specs.declared.orders_fault.OrdersFault.{OrdersFault}
use Rattle.nms_files.specs.declared.orders_fault.OrdersFault.TheVariants as orders_fault

abbrev pub code_of_changes : ChangesFault → List ℕ
code_of_changes (changes_fault.Record fault) = record_faults.code_of fault
code_of_changes (changes_fault.Line fault) = line_faults.code_of fault
code_of_changes changes_fault.TapeFull = codes "F4"

abbrev pub status_of_changes : ChangesFault → ℕ
status_of_changes (changes_fault.Record fault) = record_faults.status_of fault
status_of_changes (changes_fault.Line fault) = record_faults.refused_status
status_of_changes changes_fault.TapeFull = 6

abbrev pub code_of_orders : OrdersFault → List ℕ
code_of_orders (orders_fault.Record fault) = record_faults.code_of fault
code_of_orders (orders_fault.Line fault) = line_faults.code_of fault

abbrev pub status_of_orders : OrdersFault → ℕ
status_of_orders (orders_fault.Record fault) = record_faults.status_of fault
status_of_orders (orders_fault.Line fault) = record_faults.refused_status

abbrev pub code_of_feed : FeedFault → List ℕ
code_of_feed (feed_fault.Record fault) = record_faults.code_of fault
code_of_feed feed_fault.TooLong = codes "E3"

abbrev pub status_of_feed : FeedFault → ℕ
status_of_feed (feed_fault.Record fault) = record_faults.status_of fault
status_of_feed feed_fault.TooLong = 6
