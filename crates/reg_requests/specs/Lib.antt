pub use Rattle.reg_model.specs.Calls
pub mod Words
pub mod Numbers
pub mod Lines
pub mod Requests
pub mod TakenIsccs
pub mod Laws
pub mod inner
