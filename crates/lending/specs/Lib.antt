pub mod NumberedWorld
pub mod Lending
