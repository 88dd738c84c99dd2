pub mod Classes
pub mod Values
pub mod Running
pub mod Says
pub mod Finding
pub mod Skipping
