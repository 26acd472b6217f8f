pub mod Got
pub mod Mask
pub mod Literals
pub mod TextRows
pub mod Gives
pub mod Evaluated
pub mod Matters
pub mod Wanted
