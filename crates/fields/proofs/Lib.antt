-- Answers depend on the texts under the names used, and on nothing else of a card.
pub mod Sets
pub mod Verdicts
pub mod Answers
pub mod Prepared
pub mod Explanations
pub mod Comparing
pub mod Trial
pub mod Leaks
pub mod Promises
