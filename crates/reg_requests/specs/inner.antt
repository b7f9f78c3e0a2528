-- What only proofs and private contracts use.
pub mod Printing
pub mod Reading
