pub mod History
pub mod Rounds
pub mod Laws
pub mod lines
pub mod check
pub mod inner
