-- What the code on a node needs beside the rules.
pub mod Makers
pub mod MoveTable
