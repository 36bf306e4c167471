-- The laws that stand by themselves, for the proofs of this crate.
pub mod Rounds
pub mod Calls
pub mod Theorems
