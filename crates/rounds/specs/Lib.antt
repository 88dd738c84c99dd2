-- The step over lent records, taken apart as its code does.
pub mod Lent
