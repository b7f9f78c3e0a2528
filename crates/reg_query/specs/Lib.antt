pub mod Snapshots
pub mod Queries
pub mod inner
