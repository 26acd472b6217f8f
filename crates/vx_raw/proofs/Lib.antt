pub mod Crosses
pub mod Made
pub mod RegionLemmas
pub mod Rows
pub mod Sharing
