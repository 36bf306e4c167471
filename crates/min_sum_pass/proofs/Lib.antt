-- The laws that stand by themselves, for the proofs of this crate.
pub mod Variables
pub mod Average
pub mod Checks
pub mod Sends
