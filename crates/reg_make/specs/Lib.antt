pub mod Generator
pub mod Workloads
pub mod Counting
pub mod Laws
pub mod inner
