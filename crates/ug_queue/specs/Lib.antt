pub mod Cursors
pub mod Lines
pub mod Queues
pub mod Rests
pub mod Spread
pub mod Stands
