-- A row of pieces, and the listing of a ledger's root as one.
pub mod Row
pub mod Order
pub mod Demands
