-- What only proofs and private contracts use.
pub mod MergeKeys
pub mod Current
pub mod Marks
