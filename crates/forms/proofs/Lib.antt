pub mod Laws
pub mod UpTo
pub mod Sums
pub mod Reading
pub mod Pairs
pub mod Whole
