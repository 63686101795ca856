-- The laws of cards.
pub mod Read
pub mod Entries
pub mod RoundTrip
pub mod Cards
pub mod Trial
