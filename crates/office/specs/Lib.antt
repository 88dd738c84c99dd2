-- The three calls on bytes.
pub mod Calls
pub mod Demands
