-- What the alternatives of a search string ask, on a sheet and of a card.
pub mod Asking
pub mod Meaning
pub mod Rules
