pub mod Entries
mod Steps
