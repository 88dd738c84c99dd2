-- What the makers of ledgers and nodes give.
pub mod Tables
