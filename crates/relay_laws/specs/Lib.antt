-- The definitions that the theorems of this crate cite.
pub mod Legs
pub mod Orders
pub mod BestOfLegs
