pub mod Faults
pub mod Questions
pub mod Runs
