pub mod Law
pub mod Limits
pub mod Lines
pub mod Output
pub mod Session
pub mod Tallies
pub mod Transcript
