pub mod Linking
pub mod inner
