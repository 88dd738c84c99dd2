-- The scanner that holds the text and its place in it.
pub mod Scanning
pub mod Demands
