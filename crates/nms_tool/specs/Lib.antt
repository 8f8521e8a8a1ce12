pub mod Failed
pub mod Served
pub mod Statuses
