pub mod Flaws
pub mod Hex
pub mod Lines
pub mod Parts
pub mod Replies
pub mod Requests
pub mod Runs
pub mod Words
