-- Used by proofs and private contracts only.
pub mod Turns
pub mod Ways
pub mod Trials
