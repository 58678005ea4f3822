pub mod Parts
pub mod Closing
pub mod Chains
pub mod Adopting
pub mod TakingOver
pub mod LogChains
