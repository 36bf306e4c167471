-- Theorems of the graph's calls.
pub mod Theorems
