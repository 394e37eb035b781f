pub mod Pools
pub mod Kept
