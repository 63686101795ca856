-- Answers and refusals: the numbers, the order among them, and steps that may end in one.
pub mod Answers
pub mod Decisions
pub mod Order
pub mod Steps
