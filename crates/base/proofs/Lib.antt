-- The laws that every layer shares.
pub mod Tests
pub mod Options
pub mod Below
pub mod Integers
pub mod Named
pub mod Lists
pub mod All
pub mod Parts
pub mod Writing
pub mod Affixes
pub mod Runs
pub mod Split
pub mod Invariants
pub mod Loops
pub mod Digits
pub mod Between
pub mod Names
