pub mod Typing
pub mod Depth
pub mod Eval
