pub mod ColumnLemmas
pub mod KeptLemmas
