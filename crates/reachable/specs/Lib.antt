-- Which ledgers are real? The requests that make a given ledger, the earlier rule of well formed, and the statements over them.
pub mod Replay
pub mod Batches
pub mod Work
pub mod Parents
pub mod History
pub mod Length
pub mod Earlier
pub mod Demands
pub mod Examples
