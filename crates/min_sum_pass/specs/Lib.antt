-- The definitions that the contracts of this crate and of those above it cite.
pub mod MinSum
pub mod Needs
