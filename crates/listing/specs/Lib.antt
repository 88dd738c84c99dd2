-- The table of nodes as the code of a run has it, and what that code counts on. What a listing is stands in the crate listing_rules.
pub mod Table
