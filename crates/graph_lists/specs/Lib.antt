-- The definitions that the contracts of this crate and of those above it cite.
pub mod Lists
pub mod Graph
pub mod Messages
pub mod Model
pub mod Sound
pub mod Steps
pub mod QuickTest
