-- The definitions that the contracts of this crate and of those above it cite.
pub mod Step
pub mod Leg
pub mod Places
