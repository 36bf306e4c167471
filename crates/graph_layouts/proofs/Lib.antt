-- The laws that stand by themselves, and what a reader may rely on.
pub mod Lists
pub mod Tests
pub mod Loops
pub mod Beliefs
pub mod Relay
pub mod Theorems
