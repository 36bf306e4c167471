-- The laws that stand by themselves, for the proofs of this crate and of `stream_laws`.
pub mod Cases
pub mod Keeping
