-- Does it matter who rang first? What a request sees, the pairs of requests whose order matters, and the statements over them.
pub mod Sight
pub mod Exceptions
pub mod Demands
pub mod Merges
pub mod Cases
