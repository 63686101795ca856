-- Laws of the rows and of the steps that raise them, the plan, the table of refusals, and the promises.
pub mod Values
pub mod Steps
pub mod Passes
pub mod Surveys
pub mod Table
pub mod Planning
pub mod Reporting
pub mod Words
pub mod Contracts
pub mod Promises
