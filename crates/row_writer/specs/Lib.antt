-- The rows that reading a filter writes.
pub mod Writing
pub mod Steps
