-- Laws of explain, its table of refusals, and the promises.
mod Filling
pub mod Explaining
pub mod Table
pub mod Contracts
pub mod Answered
pub mod Trial
pub mod Promises
