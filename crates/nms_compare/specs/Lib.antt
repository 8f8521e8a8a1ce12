pub mod National
pub mod Faults
pub mod Finding
pub mod Standing
pub mod Compared
pub mod Summed
pub mod Showing
