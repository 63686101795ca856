-- Laws that the program's proofs share.
pub mod Selecting
