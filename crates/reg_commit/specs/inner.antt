-- What only proofs and private contracts use.
pub mod Walking
pub mod Kinds
pub mod Turns
pub mod Trials
