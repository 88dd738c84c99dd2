-- Laws that the proofs of the line writer's functions use, over plain variables.
pub mod Area
pub mod Backwards
pub mod Ending
pub mod Added
