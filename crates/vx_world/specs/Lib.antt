pub mod Plain
pub mod PlainRule
pub mod Scenes
pub mod Looks
pub mod Steps
pub mod WorldFields
pub mod PlainFields
