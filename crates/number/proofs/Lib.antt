-- The laws that the proofs cite, and the theorems on texts and exact values.
pub mod Digits
pub mod Texts
pub mod Exact
pub mod Range
pub mod Spelling
