pub mod Endings
pub mod Json
pub mod Plain
pub mod Safe
pub mod Written
