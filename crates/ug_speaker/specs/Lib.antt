pub mod Speech
pub mod Told
pub mod Places
pub mod Counts
pub mod Right
pub mod Owes
pub mod Story
pub mod StoryLaws
