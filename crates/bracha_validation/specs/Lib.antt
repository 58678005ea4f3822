pub mod Votes
pub mod Picks
pub mod Tallies
pub mod PickLaws
pub mod RuleLaws
pub mod Rows
