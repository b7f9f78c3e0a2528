-- What only proofs and private contracts use: no promise needs these.
pub mod KindNumbers
pub mod StoredUnits
pub mod Joined
pub mod Decoding
