-- The laws of tokens.
pub mod Split
pub mod Forms
pub mod Rules
pub mod Readings
mod Readable
mod Namespace
mod Match
