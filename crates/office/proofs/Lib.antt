pub mod Smalls
pub mod Requesting
pub mod Opening
pub mod Demands
