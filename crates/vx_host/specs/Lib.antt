pub mod Files
pub mod Host
pub mod Memory
pub mod Reading
pub mod Real
pub mod Sink
pub mod Stores
pub mod Views
