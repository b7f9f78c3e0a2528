-- What only proofs and private contracts use.
pub mod Bytes
pub mod Printing
pub mod LiveSets
pub mod Ledgers
pub mod Serving
pub mod CheckSteps
