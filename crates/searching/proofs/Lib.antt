-- The laws that the proofs of check and match by a search string cite.
pub mod SearchPassing
