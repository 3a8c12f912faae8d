pub mod Tree
pub mod Heap
pub mod Limits
pub mod Lawful
pub mod Pieces
pub mod Roles
pub mod Laws
