pub mod Bits
pub mod StateLemmas
pub mod SubtreeLemmas
