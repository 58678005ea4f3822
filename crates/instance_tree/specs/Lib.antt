pub mod SlotMaps
pub mod Places
pub mod Keys
pub mod Arena
pub mod Lends
pub mod Rows
