-- Parameter sheets: how they are read, how they are written, and how a parameter is found.
pub mod Sheet
pub mod Find
pub mod Tables
pub mod Encode
pub mod Trial
