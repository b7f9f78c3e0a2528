-- What only proofs and private contracts use.
pub mod Between
pub mod Publications
pub mod Withdrawals
pub mod Refusals
