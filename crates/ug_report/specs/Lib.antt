pub mod Report
pub mod Statuses
