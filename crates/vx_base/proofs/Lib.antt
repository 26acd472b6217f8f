pub mod TraverseLaws
