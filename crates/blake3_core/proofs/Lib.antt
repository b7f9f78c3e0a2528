pub mod Chunks
pub mod Trees
pub mod Words
mod WorkedExamples
