-- The laws of the machine.
pub mod Choices
pub mod Steps
pub mod Walks
pub mod Stepping
pub mod Walking
pub mod Rests
pub mod Backing
pub mod Good
pub mod Limits
pub mod Longest
pub mod Whole
pub mod Place
