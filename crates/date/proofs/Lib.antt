-- The laws of dates.
pub mod Calendar
pub mod Succession
pub mod Fields
pub mod Spans
pub mod Texts
pub mod Positions
pub mod Complete
pub mod Sound
pub mod Spelling
pub mod Readings
