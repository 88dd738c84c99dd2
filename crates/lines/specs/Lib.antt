-- An area and a line's numbers as the code of the line writer has them. What a line is stands in the crate line_rules.
pub mod Area
pub mod Fields
