-- The definitions that the contracts of this crate and of those above it cite.
pub mod Fractions
pub mod Logarithm
pub mod Scaled
pub mod Exact
pub mod Ratios
pub mod Calls
