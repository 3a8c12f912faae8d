pub mod Escaping
pub mod Accessing
pub mod Folding
pub mod Methods
pub mod Chains
pub mod Parting
