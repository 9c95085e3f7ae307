pub mod Fault
pub mod Refusal
