pub mod Lines
pub mod Standings
pub mod Summary
pub mod Draws
pub mod Configuration
pub mod Workload
