-- What a walk over a filter's text answers, and what reading gathers from the tests.
pub mod Folds
pub mod Walks
