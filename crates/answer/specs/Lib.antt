-- What the operations answer, in document 01's numbers, and how the answers come about; then the tables of refusals and demand 3.
pub mod Operations
pub mod Passing
pub mod Preparing
pub mod Searching
pub mod Verdicts
pub mod Numbers
pub mod Demand
pub mod Selection
pub mod Refusals
pub mod SearchDemand
pub mod SearchRefusals
pub mod RowsRefusals
