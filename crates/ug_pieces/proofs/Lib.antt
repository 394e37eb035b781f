pub mod LineCuts
pub mod LineReads
pub mod PieceSteps
pub mod Cut
pub mod Coding
