pub mod Agreeing
pub mod Bits
pub mod Example
pub mod Knowing
pub mod Named
pub mod Shaped
pub mod Staying
pub mod Tabled
