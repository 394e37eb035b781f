pub mod Drawing
mod LaneLaws
mod Wired
mod Histories
mod Passes
pub mod Stories
pub mod Coming
pub mod Lost
pub mod Concluding
pub mod Starting
pub mod Running
pub mod Homing
pub mod Setting
pub mod Audited
pub mod Worlds
pub mod Versions
pub mod Marked
pub mod AuditedWires
pub mod Kept
pub mod AuditedLosses
pub mod Words
pub mod Reading
pub mod Assembled
pub mod Passing
pub mod Telling
pub mod Tails
pub mod Good
pub mod Ranges
pub mod Told
pub mod Files
pub mod Names
pub mod Runs
pub mod Sites
pub mod Audits
