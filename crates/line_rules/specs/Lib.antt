-- The lines of document 01, "Text and listing": decimals, words, lines, what the line writer answers; then what is demanded of them.
pub mod Decimal
pub mod Words
pub mod Line
pub mod Written
pub mod Plain
pub mod Longest
pub mod Demands
