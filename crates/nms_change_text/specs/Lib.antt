pub mod ChangeText
pub mod ReadBack
