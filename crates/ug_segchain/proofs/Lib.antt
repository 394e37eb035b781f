pub mod Crosses
pub mod Laid
pub mod Memory
pub mod Segments
pub mod Sharing
