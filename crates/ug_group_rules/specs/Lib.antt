pub mod Packets
pub mod Machine
pub mod Touched
pub mod Evaluations
pub mod Rules
pub mod Simulates
pub mod PeerKeys
