-- The laws that stand by themselves, and what a reader may rely on.
pub mod Rearrange
pub mod Witness
pub mod Exchange
pub mod SameOutcome
pub mod AnyOrder
pub mod Theorems
