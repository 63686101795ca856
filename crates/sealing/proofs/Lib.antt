-- The laws that the proofs of seal and record cite, and the promises.
mod Sealing
pub mod Promises
