pub mod Options
pub mod Reports
pub mod Texts
