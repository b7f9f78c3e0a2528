pub mod Fit
pub mod inner
