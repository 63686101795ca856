-- The laws of periods.
mod Texts
pub mod Relations
pub mod Spelling
