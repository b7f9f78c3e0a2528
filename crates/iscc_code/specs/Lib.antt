pub use Rattle.iscc_header.specs.Bits
pub use Rattle.iscc_header.specs.Kinds
pub use Rattle.iscc_header.specs.Headers
pub mod Units
pub mod Composites
pub mod Codes
pub mod Laws
pub mod inner
