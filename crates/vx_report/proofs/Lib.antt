pub mod AscendingLaws
pub mod TextLaws
