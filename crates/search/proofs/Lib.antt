-- The laws of what alternatives ask.
pub mod Asking
pub mod Rules
mod Prefixes
mod Judging
