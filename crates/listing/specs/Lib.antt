-- What `pick` prints, byte by byte, and the numbers in it.
pub mod FilterText
pub mod Totals
pub mod Places
pub mod Lines
