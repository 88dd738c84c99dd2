-- What the ledger's code needs beside the rules.
pub mod Slots
pub mod Table
