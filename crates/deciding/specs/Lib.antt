-- Which tests decide what a filter says of a card, how that is computed, and the same over rows.
pub mod Deciding
pub mod Marks
pub mod Rows
