pub mod Names
pub mod Holders
pub mod AccountRule
pub mod Kinds
pub mod AccountFields
pub mod HolderFields
