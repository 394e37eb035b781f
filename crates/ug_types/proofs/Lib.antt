pub mod NameText
pub mod BareLemmas
pub mod Same
pub mod Routers
