-- Document 01's text, in its own order: bytes, the marks they make, numbers, lines, the judgement, the readers' answers; then what a scanner
-- finds, and the demands.
pub mod Bytes
pub mod Marks
pub mod Digits
pub mod Lines
pub mod Judgement
pub mod Answers
pub mod Tokens
pub mod Demands
pub mod Examples
