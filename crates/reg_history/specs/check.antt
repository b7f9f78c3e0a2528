-- The check of a text.
pub mod Checking
