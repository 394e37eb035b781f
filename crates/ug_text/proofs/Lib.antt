pub mod Pieces
pub mod Groups
pub mod Hexadecimal
