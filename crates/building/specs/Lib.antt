pub mod Growing
pub mod Builds
pub mod Lists
pub mod Texts
pub mod Quasis
pub mod Templates
pub mod Joined
