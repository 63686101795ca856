-- The laws of the scans, and the theorem that the reader reads just what the grammar derives.
pub mod Words
pub mod Bytes
pub mod Values
pub mod Decoding
pub mod Operators
pub mod Tests
pub mod Structure
pub mod Places
pub mod Whole
pub mod Sound
pub mod Chains
pub mod Complete
pub mod Spelling
pub mod Fold
