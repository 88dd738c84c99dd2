-- Document 01's listing: the lines of a run, the listing of a text, and what stands in the area that is lent for it; then the demands.
pub mod Steps
pub mod Listing
pub mod Lent
pub mod Grants
pub mod Demands
