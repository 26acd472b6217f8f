pub mod Places
pub mod Laws
pub mod Moves
pub mod Owned
