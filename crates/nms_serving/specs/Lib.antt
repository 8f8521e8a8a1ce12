pub mod Faults
pub mod Keeping
pub mod Lengths
pub mod Resuming
pub mod Room
pub mod Silences
pub mod Streams
