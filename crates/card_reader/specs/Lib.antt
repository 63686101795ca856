-- What the texts of a card read to, and what is kept of it.
pub mod Readings
pub mod Lists
pub mod Storing
pub mod Listed
pub mod Lending
pub mod Once
