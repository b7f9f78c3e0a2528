pub mod Packing
pub mod Memory
pub mod Laws
