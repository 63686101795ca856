-- The definitions that the contracts cite.
pub mod Value
pub mod Reading
pub mod Spelling
pub mod Billionths
pub mod Range
