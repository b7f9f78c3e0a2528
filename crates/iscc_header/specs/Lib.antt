pub mod Bits
pub mod Kinds
pub mod Unit64s
pub mod Headers
pub mod inner
