pub mod Quantum
pub mod Pools
pub mod Sums
pub mod Fields
