-- What the code of a step needs of the definitions.
pub mod Laws
