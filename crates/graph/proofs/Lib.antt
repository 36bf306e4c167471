-- What a reader may rely on.
pub mod Theorems
