-- Numbers as document 01 reads them.
pub mod Progress
pub mod Fields
