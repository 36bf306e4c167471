-- The laws of the generator's steps, and the theorems of the draws.
pub mod Mixing
pub mod Streams
pub mod Theorems
