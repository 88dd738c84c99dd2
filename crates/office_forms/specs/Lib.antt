-- What the tests over bytes say of an area.
pub mod Measured
pub mod Codes
pub mod Told
