pub use Rattle.nms_fees.specs.Places as Places
pub mod Tables
pub mod Forms
pub mod Findings
pub mod Known
pub mod Examined
pub mod Laws
