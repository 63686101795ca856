-- The report on a run of cards: the rows, the operation and its refusals, and what the promises about it say; then the code's steps.
pub mod Tallies
pub mod Operation
pub mod Refusals
pub mod Reporting
pub mod Steps
pub mod Operations
