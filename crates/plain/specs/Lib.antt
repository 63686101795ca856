-- The plain spelling of a filter, what is promised of it, and the texts of its values and tests as they stand in the filter.
pub mod Plain
pub mod Laws
pub mod Writing
