-- The laws of search strings, as they are spelled, read and kept.
pub mod Cuts
pub mod Decoding
pub mod Signs
pub mod Alternatives
pub mod Reading
pub mod Parts
pub mod Lines
mod Units
mod Gathering
mod Pairs
mod Keeping
mod Holding
mod Passing
mod Accepting
pub mod Accepted
