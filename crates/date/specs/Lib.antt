-- The definitions of dates.
pub mod Calendar
pub mod Arithmetic
pub mod Fields
pub mod Spans
pub mod Marks
pub mod Texts
pub mod Spelling
pub mod Succession
pub mod Instants
