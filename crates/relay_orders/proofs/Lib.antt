-- The laws that stand by themselves, for the proofs of this crate and of those above it.
pub mod All
pub mod Counts
pub mod OrderTests
pub mod OrderWords
