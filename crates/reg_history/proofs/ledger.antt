-- What is live, and what replies depend on.
pub mod LiveEntries
pub mod ByKind
pub mod LookUps
pub mod LedgerSteps
pub mod ToldHits
