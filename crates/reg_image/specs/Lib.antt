pub mod Images
pub mod ImageFaults
pub mod Laws
pub mod inner
