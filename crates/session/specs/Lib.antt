pub mod Models
pub mod Following
pub mod Trying
pub mod Sweeping
pub mod Calling
pub mod Running
