pub mod Spots
pub mod Joined
pub mod Walk
pub mod Owned
pub mod Rounds
pub mod Tied
