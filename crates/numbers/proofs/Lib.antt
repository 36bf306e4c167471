-- The laws that stand by themselves, for the proofs of this crate and of those above it.
pub mod Cases
pub mod Bits
pub mod Order
pub mod Sizes
pub mod Loops
pub mod Turns
pub mod Room
