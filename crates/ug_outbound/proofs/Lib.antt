pub mod Mapping
pub mod Kept
pub mod Paths
pub mod Bytes
pub mod Bounds
pub mod Consequences
