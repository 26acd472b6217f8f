pub mod RowLemmas
pub mod LookLemmas
pub mod LogLemmas
pub mod Sharing
pub mod Keeps
pub mod Turns
pub mod Aborts
