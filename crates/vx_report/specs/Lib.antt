pub mod Ascending
pub mod Digests
pub mod Logs
pub mod Notes
pub mod Sections
pub mod Stats
