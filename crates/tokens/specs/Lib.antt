-- What the code finds on its way to a token, byte by byte.
pub mod Scan
