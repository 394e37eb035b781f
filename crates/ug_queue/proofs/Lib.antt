pub mod Counts
pub mod Kept
pub mod Members
pub mod MemberRests
pub mod Placed
pub mod Rests
pub mod Searches
pub mod Sheds
mod Spreading
