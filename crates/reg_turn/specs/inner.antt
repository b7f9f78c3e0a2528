-- What only proofs and private contracts use.
pub mod OneTurn
pub mod Steps
