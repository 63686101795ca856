-- The laws that the proofs cite.
pub mod Saying
pub mod Meaning
pub mod Asking
