pub mod Chains
pub mod Nodes
pub mod Served
