pub mod Check
pub mod Failed
pub mod LiveFiles
pub mod Served
pub mod Statuses
pub mod Steps
pub mod Unread
