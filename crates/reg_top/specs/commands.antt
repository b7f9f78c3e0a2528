-- The commands, one by one: what each writes, and why it refuses what it is given.
pub mod Run
pub mod Make
pub mod Explain
pub mod Compose
pub mod Instance
pub mod Check
