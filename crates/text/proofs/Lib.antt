pub mod Borders
pub mod Decoding
pub mod Pairing
pub mod Rejoin
pub mod Seams
pub mod Stepping
pub mod Surveying
pub mod Widths
