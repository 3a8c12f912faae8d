pub mod Digits
pub mod Pairs
pub mod Replying
pub mod Requested
pub mod Spaces
pub mod Stepping
