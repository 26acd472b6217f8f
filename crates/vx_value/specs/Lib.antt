pub mod Hash
pub mod KeyBytes
pub mod Order
pub mod Row
pub mod Value
