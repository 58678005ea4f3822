pub mod EventTexts
pub mod Readings
mod Faults
mod Groups
mod OpeningImages
