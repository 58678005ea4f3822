pub mod Order
pub mod Pauses
pub mod Apart
pub mod Turns
