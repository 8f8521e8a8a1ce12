pub use Rattle.csv.specs.Records as Rows
pub use Rattle.nms_quote.specs.Members as Members
pub use Rattle.nms_quote.specs.Roster as Roster
pub mod ChangeReading
pub mod FaultTable
pub mod Faults
pub mod FieldFaults
pub mod Fields
pub mod Laws
pub mod Layout
pub mod Left
pub mod LineOf
pub mod Lines
pub mod Named
pub mod Numbers
pub mod PlaceExamples
pub mod PlanFaults
pub mod PlanLaws
pub mod PlanReading
pub mod PlanRecords
pub mod PlanText
pub mod RecordFaults
pub mod Records
pub mod Sides
pub mod Sources
pub mod Text
pub mod TextLaws
pub mod Written
