-- Explain: what it answers and writes, where it is refused, and what is promised of it.
pub mod Operation
pub mod Refusals
pub mod Operations
pub mod Explaining
pub mod Trial
