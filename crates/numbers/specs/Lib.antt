-- The definitions that the contracts of this crate and of those above it cite.
pub mod Floats
pub mod Loops
pub mod Draw
pub mod Limits
