-- Laws of digits and of lines.
pub mod Decimal
pub mod Examples
pub mod Putting
