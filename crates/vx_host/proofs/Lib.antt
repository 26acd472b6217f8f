pub mod Giving
pub mod KnownBytes
