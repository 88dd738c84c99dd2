-- What the code of a step says of any numbers at all.
pub mod Clipped
