-- The laws that the proofs about one card cite, and those of match and select that go by its verdict.
pub mod Judging
