pub mod Entry
pub mod History
pub mod Kept
pub mod Rules
pub mod Seen
pub mod Deeds
pub mod Sessions
