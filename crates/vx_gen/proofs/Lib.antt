pub mod CheckedLaw
pub mod DrawLemmas
