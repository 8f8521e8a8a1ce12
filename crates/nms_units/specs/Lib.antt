pub mod Digits
pub mod Lot
pub mod Money
pub mod Price
pub mod Shares
