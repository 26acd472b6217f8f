pub mod TextLemmas
pub mod SelectionLemmas
pub mod FormLemmas
pub mod ViewLemmas
pub mod LaneLemmas
pub mod MarkLemmas
pub mod KindLemmas
