pub mod Computed
pub mod Digits
pub mod Marks
pub mod Granted
pub mod Demands
