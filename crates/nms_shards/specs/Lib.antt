pub mod Added
pub mod Shard
pub mod OfSymbol
pub mod ShardExamples
