pub mod Cases
pub mod Hosts
pub mod Items
pub mod Lines
pub mod Rooms
pub mod Trees
