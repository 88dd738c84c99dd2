-- The length of a large area, which is not computed, and the bytes that are moved.
pub mod Areas
pub mod Bytes
