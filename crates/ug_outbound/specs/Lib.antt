pub mod Tables
pub mod Policies
pub mod Keys
pub mod Outbound
pub mod Bounds
