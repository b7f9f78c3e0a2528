-- Definitions that only proofs and private contracts use.
pub mod Letters
pub mod Gathering
pub mod Reading
