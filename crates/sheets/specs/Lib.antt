-- What room the program lends.
pub mod Rooms
