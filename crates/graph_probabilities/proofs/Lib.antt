-- The laws that the proofs of this crate share, and what a reader may rely on.
pub mod Outcomes
pub mod Same
pub mod Theorems
