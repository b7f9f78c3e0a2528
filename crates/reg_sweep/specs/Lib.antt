pub mod Sweeping
pub mod inner
