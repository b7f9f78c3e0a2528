pub mod Turns
pub mod PlainRows
pub mod inner
