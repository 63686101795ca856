-- The definitions that every layer shares.
pub mod Options
pub mod Below
pub mod Lists
pub mod Parts
pub mod Writing
pub mod Affixes
pub mod Runs
pub mod Split
pub mod Bytes
pub mod Ascii
pub mod Digits
pub mod Between
pub mod Names
pub mod Operators
pub mod Kinds
