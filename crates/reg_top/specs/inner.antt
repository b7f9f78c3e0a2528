-- What only proofs and private contracts use.
pub mod Endings
pub mod RunPlans
pub mod RunFiles
pub mod RunImages
pub mod RunRounds
pub mod RunEndings
pub mod RunWords
