pub mod KeyLaws
pub mod KeyItems
pub mod Walks
pub mod Leaving
pub mod Stamps
mod Sorting
pub mod InOrder
pub mod Places
pub mod Peers
pub mod Clearing
pub mod FirstOnes
pub mod Ranges
