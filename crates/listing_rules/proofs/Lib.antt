-- Laws of runs and of their lines; and the demands, proved.
pub mod Stopped
pub mod Runs
pub mod Teams
pub mod Lines
pub mod Noted
pub mod Short
pub mod Demands
