-- The names that a filter uses, and cards with the same texts under them.
pub mod Used
pub mod Leaks
pub mod Trial
