-- What spell answers; then what the operations do on every input, and what the promises about them say.
pub mod Spelling
pub mod SameQuestion
pub mod Operations
pub mod Trial
pub mod Edges
pub mod Searches
pub mod Seconds
pub mod AnyList
pub mod Stating
pub mod Limits
