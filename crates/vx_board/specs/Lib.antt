pub mod Seats
pub mod BoardRule
pub mod Kinds
pub mod BoardFields
pub mod SeatFields
pub mod TestBoards
