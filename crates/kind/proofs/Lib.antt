pub mod Table
pub mod Texts
pub mod Values
pub mod Rules
