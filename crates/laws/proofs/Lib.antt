-- The statements of specs/, proved. README.md says how demand 3 is.
pub mod Batches
pub mod Claims
pub mod Runs
pub mod Onward
pub mod Whole
pub mod Sheets
pub mod Story
pub mod Tally
pub mod Reports
pub mod Sheet40
pub mod Once
pub mod Listed
