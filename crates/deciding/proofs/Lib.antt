-- Laws of the tests that decide, and of the walks over rows.
pub mod Exact
pub mod Numbered
pub mod Deciding
pub mod Outer
mod Parting
mod Marking
mod Spared
mod Telling
pub mod Alike
