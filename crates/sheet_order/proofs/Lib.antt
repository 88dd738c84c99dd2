-- Why the computed listing is the rules'.
pub mod Row
pub mod Order
pub mod Demands
