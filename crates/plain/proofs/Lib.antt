-- The plain spelling is read back, decides, and is shortest; and the laws of the writers of values, tests and brackets.
pub mod Values
pub mod Length
pub mod Reading
pub mod Shortest
mod Bytes
mod Tests
mod Moving
