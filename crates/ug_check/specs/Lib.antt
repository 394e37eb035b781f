pub mod Decoded
pub mod Checks
pub mod Checkers
pub mod Written
pub mod Rows
pub mod Stored
pub mod Waiting
