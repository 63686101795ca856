-- What the parts of the program do each other.
pub mod Bounds
pub mod Runs
