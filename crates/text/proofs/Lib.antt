pub mod Stepping
pub mod Passing
pub mod Judging
