pub mod Lines
pub mod Each
pub mod Runs
pub mod Bounds
pub mod Values
pub mod InRange
