-- The laws that stand by themselves, for the proofs of this crate and of those above it.
pub mod Parts
pub mod Lengths
pub mod Variables
pub mod Passes
pub mod Legs
pub mod Weights
pub mod Tame
pub mod Bounds
