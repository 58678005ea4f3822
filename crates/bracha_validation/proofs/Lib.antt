pub mod Counts
pub mod Formulas
pub mod Joins
