pub mod Chunk
pub mod Compression
pub mod Tree
