-- The laws that the proofs cite.
pub mod Entries
pub mod Occurrences
pub mod Meaning
pub mod Table
pub mod Rules
pub mod Once
