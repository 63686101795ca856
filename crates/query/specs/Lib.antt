-- Search strings: how they are spelled, read and kept in rows.
pub mod Spelling
pub mod Reader
pub mod Lines
pub mod Scan
pub mod Met
pub mod Rows
pub mod Within
