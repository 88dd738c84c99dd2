-- What the passes over a text find.
pub mod Passes
