-- What the tests of well formed need beside the rules.
pub mod Head
pub mod Table
pub mod Walk
