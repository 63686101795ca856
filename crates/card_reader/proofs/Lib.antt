-- The laws of a card that is read once.
pub mod TextReadings
pub mod Storing
pub mod Lends
pub mod Reading
pub mod Relating
pub mod Chains
