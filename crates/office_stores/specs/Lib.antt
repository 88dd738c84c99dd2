-- Where a change stores.
pub mod Changes
