-- What judging a card by a filter's text gathers from the tests, and what the test of a member says.
pub mod Folds
pub mod Members
