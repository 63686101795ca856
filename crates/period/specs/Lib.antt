-- The definitions of periods.
pub mod Instants
pub mod Relations
pub mod Texts
pub mod Spelling
