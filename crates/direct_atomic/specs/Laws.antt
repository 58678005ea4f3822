-- What the laws are proved by. No contract reads it.
pub mod Inner
pub mod Box
pub mod OneList
pub mod Opening
