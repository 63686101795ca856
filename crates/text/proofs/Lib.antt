-- The laws of texts.
pub mod Fold
pub mod Folded
pub mod Readings
mod Compare
