-- How a report's answer and an engine cross to C, and what the report for C does.
pub mod Answers
pub mod Operations
pub mod Engines
