-- The laws that stand by themselves, for the proofs of this crate and of those above it.
pub mod Sizes
pub mod Told
