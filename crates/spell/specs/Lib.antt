-- What the walk writes that spells a filter, and what spell answers.
pub mod Walks
pub mod Spelling
