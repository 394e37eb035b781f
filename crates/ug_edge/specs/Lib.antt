pub mod Told
pub mod Fails
pub mod SinkState
pub mod SessionsState
pub mod WireState
pub mod SiteState
pub mod RoomState
pub mod GatedState
