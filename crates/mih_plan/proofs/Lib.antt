pub mod Distances
pub mod Walking
pub mod Blocks
pub mod Tables
pub mod Sharing
pub mod Ordered
pub mod WorkedPlans
