-- The laws that stand by themselves, for the proofs of this crate and of those above it.
pub mod Parts
pub mod Least
pub mod Walks
pub mod Sides
