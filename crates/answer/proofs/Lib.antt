-- The laws about what the operations answer: what the code of the operations cites, and the tables of refusals.
pub mod Slices
pub mod Passing
pub mod Outcomes
pub mod Cards
mod Witnesses
pub mod Faults
pub mod Inputs
pub mod Verdicts
pub mod Runs
pub mod Selection
pub mod Blocks
pub mod CheckTable
pub mod MatchTable
pub mod RunTable
pub mod SelectTable
pub mod Answered
pub mod RowsTable
pub mod RowsAnswered
pub mod SearchFaults
pub mod SearchTable
