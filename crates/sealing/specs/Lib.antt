-- Blocks as programs make and read them.
pub mod Sealing
