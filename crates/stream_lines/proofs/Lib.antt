-- The laws that stand by themselves.
pub mod Puts
pub mod Theorems
