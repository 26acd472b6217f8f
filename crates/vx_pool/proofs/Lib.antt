pub mod Keeping
pub mod Laws
pub mod QuantumLemmas
pub mod SumLemmas
pub mod Walks
