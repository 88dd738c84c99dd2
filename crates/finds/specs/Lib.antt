-- What the code on results needs beside the rules.
pub mod Held
