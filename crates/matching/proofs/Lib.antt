-- The laws that the proofs of match and judge cite.
pub mod RowsJudged
pub mod RowsMatched
