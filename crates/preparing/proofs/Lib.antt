-- The laws that the proofs of prepare cite.
pub mod Filled
