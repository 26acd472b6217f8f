pub mod Block
pub mod Chunks
pub mod Free
pub mod Names
pub mod Part
pub mod Text
