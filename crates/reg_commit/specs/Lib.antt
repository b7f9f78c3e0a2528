pub mod Fronts
pub mod Helps
pub mod Takes
pub mod inner
