pub mod Answering
pub mod Asking
pub mod Making
