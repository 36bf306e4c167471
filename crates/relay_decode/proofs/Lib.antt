-- The laws that stand by themselves, for the proofs of this crate and of those above it.
pub mod WholeGraph
pub mod Runs
pub mod Shots
pub mod Faults
