-- The statements of specs/, proved: what a request reads, what it leaves, what it writes, and the two orders of both.
pub mod Decides
pub mod Leaves
pub mod Free
pub mod Unseen
pub mod Deeds
pub mod Demands
pub mod Merges
pub mod Cases
