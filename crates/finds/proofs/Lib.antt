-- What the code on results needs of the definitions.
pub mod Held
