pub mod Held
pub mod Stores
pub mod Raw
