pub mod Fits
pub mod Owed
pub mod Keys
pub mod Hops
pub mod Runs
pub mod Stays
