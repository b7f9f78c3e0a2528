pub mod Faults
pub mod Files
pub mod Shelves
pub mod Sinks
pub mod Outside
pub mod Sessions
pub mod inner
