-- The definitions of this crate.
pub mod Answers
