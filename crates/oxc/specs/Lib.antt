pub mod Escaping
pub mod Folding
pub mod Functions
pub mod Laws
pub mod Parting
