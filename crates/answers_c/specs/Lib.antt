-- How an answer crosses to C.
pub mod Answers
