pub use Rattle.nms_lines.specs.PlanText as PlanText
pub use Rattle.nms_board.specs.View as View
pub use Rattle.nms_nbbo.specs.Best as Best
pub use Rattle.nms_nbbo.specs.Market as Market
pub mod Answers
pub mod Faults
pub mod LiveText
pub mod Report
