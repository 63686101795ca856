-- The laws that the proofs cite.
pub mod Cells
pub mod Stating
pub mod Nesting
pub mod Values
pub mod Good
pub mod Naming
pub mod Fitting
pub mod Reading
