-- The filter's text: its tree, the fold over it, its grammar, and the reader that the code follows.
pub mod Tree
pub mod Fold
pub mod Strings
pub mod Grammar
pub mod Scan
pub mod Reader
pub mod Placed
pub mod Coding
