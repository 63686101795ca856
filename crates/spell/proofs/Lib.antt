-- The laws of the walk that writes, and of spell's answer.
mod Parts
pub mod Walking
mod Chaining
pub mod Spelling
