-- What the parts of the code answer on one card.
pub mod OneCard
