-- What the values of rows read to.
pub mod Opening
