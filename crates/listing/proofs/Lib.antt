-- Laws that the proofs of the listing's functions use, over plain variables.
pub mod Counting
pub mod Stepping
pub mod Writing
pub mod Reading
pub mod Looping
