-- The laws that the proofs of select cite.
pub mod Gathering
pub mod Selecting
pub mod RowsAsked
pub mod SearchAsked
