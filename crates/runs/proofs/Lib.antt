-- The proof of the table of runs.
pub mod Theorems
