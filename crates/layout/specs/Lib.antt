-- A ledger as bytes.
pub mod Sizes
pub mod Numbers
pub mod Places
pub mod Areas
pub mod Demands
