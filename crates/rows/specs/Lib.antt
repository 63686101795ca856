-- Rows: a filter's expression as cells that are read from left to right.
pub mod Expression
pub mod Cells
pub mod Nesting
pub mod Good
pub mod Shapes
pub mod Stated
