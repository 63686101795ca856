-- The meaning of tests on sheets and cards, and of filters.
pub mod Sets
pub mod Faults
pub mod Verdicts
pub mod Rules
pub mod Once
