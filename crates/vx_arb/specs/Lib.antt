pub mod Members
pub mod Log
pub mod Unmet
pub mod Rows
pub mod Books
pub mod Keeping
pub mod Fields
