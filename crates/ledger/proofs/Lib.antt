pub mod Laws
pub mod Slots
pub mod Storing
