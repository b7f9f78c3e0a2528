-- What only proofs and private contracts use: no promise needs these.
pub mod Showing
pub mod Listing
pub mod Walks
