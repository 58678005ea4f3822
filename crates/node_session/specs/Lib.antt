pub mod Opening
pub mod Session
pub mod Configs
pub mod Lives
pub mod NodePrints
