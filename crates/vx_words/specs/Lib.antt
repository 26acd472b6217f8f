pub mod Command
pub mod Kept
pub mod Numbers
pub mod Outcome
pub mod Settings
pub mod Words
