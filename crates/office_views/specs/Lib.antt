-- What a request tells.
pub mod Answers
