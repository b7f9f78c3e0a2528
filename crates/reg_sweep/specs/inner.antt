-- What only proofs and private contracts use.
pub mod Holders
pub mod Going
pub mod Turns
pub mod Trials
