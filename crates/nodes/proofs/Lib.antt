pub mod Laws
pub mod Makers
