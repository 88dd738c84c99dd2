pub mod Signed
pub mod Laws
