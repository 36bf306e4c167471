-- The definitions that the contracts of this crate and of those above it cite.
pub mod Records
pub mod Decode
pub mod Calls
pub mod Formula
pub mod Answers
