pub mod SessionLemmas
pub mod SiteLemmas
pub mod RoomLemmas
