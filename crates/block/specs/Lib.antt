-- What a sheet and a card share: blocks of 512 bytes.
pub mod Words
pub mod Sum
pub mod Columns
pub mod Seal
pub mod Items
pub mod Walking
pub mod Readings
