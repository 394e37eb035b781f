pub mod Keys
pub mod Narrow
