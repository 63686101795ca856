-- Tokens: the split at the first bar, on cards, in filters, and what a filter's asks of a card's.
pub mod Split
pub mod Card
pub mod Filter
pub mod Namespace
pub mod Match
pub mod Spelling
pub mod Rules
