pub mod Memory
pub mod LogWords
pub mod StampWords
pub mod SweepWords
