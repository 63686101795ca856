-- The laws of sheets.
pub mod Rules
pub mod Read
pub mod Search
pub mod Filling
pub mod Listed
pub mod RoundTrip
pub mod Sheets
pub mod Trial
