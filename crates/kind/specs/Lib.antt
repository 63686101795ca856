-- Kinds: the table of operators with a meaning, readable texts, and the relations of a card's text and a filter's value.
pub mod Table
pub mod Readable
pub mod Relations
pub mod Rules
