-- The laws of blocks.
pub mod Invariants
pub mod Words
pub mod Sum
pub mod Seal
pub mod Items
pub mod Walking
pub mod Contents
pub mod RoundTrip
pub mod Readings
