-- What rows say of a card.
pub mod Saying
pub mod Asking
