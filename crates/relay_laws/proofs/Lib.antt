-- Laws and theorems of Relay's calls.
pub mod Only
pub mod OrderOfCall
pub mod LegLists
pub mod Parity
pub mod Executed
pub mod Best
pub mod Written
pub mod Drawn
pub mod Clipped
pub mod StepClipped
pub mod Theorems
