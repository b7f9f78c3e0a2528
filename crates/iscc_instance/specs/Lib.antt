pub use Rattle.blake3_core.specs.Tree
pub mod Hasher
pub mod Instances
pub mod inner
