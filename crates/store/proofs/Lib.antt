pub mod Setting
pub mod Escaping
