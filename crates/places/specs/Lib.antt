-- What the code of the places says of any numbers at all.
pub mod Clipped
