pub mod Answer
pub mod Ending
pub mod Printing
pub mod Run
pub mod Stop
pub mod Words
