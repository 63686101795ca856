-- Texts: folding, comparisons, the first bar.
pub mod Fold
pub mod Compare
pub mod Bar
