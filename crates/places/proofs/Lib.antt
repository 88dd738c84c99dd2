-- Within the limits the code of the places says what the definitions say.
pub mod Laws
