pub mod Rooms
pub mod Ready
pub mod Packets
