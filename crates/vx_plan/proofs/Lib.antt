pub mod CheckLemmas
pub mod IdLemmas
pub mod LimitLemmas
pub mod TreeLemmas
pub mod TypeLemmas
pub mod WidthLaws
