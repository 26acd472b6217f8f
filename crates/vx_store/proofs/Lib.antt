pub mod FileLaws
pub mod Scripts
