pub mod Statuses
pub mod Run
pub mod Drives
pub mod Configs
