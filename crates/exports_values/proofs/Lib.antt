-- The laws that stand by themselves, for the proofs of this crate, and what a reader may rely on.
mod Laws
pub mod Theorems
