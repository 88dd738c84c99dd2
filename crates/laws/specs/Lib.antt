-- What holds after any list of requests: what was granted, the listing and the story of the sheets, and the statements over them.
pub mod Listing
pub mod Sheets
pub mod Story
pub mod Reports
pub mod Sheet40
pub mod Listed
