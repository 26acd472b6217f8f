pub mod Files
pub mod Folder
pub mod Memory
pub mod Script
pub mod Store
pub mod Views
