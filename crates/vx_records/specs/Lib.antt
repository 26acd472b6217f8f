pub mod Adding
pub mod Frame
pub mod Head
pub mod Record
