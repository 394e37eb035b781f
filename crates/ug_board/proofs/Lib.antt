pub mod Histories
pub mod Stored
pub mod Beginnings
pub mod Folding
pub mod Growth
