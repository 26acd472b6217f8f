pub mod MarkLemmas
pub mod TextLemmas
pub mod EvalLemmas
pub mod MaskLemmas
