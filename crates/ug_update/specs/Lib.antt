pub mod Updates
pub mod Views
pub mod Readers
pub mod Sizes6
pub mod Sound
pub mod AttrsViews
