-- Laws of the order among refusals, of answers, and of steps decided one after the other.
pub mod Order
pub mod Answers
pub mod Decisions
pub mod Steps
pub mod Deciding
