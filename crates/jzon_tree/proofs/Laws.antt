-- Laws for callers.
pub mod Chains
pub mod Sorted
pub mod KeyOrder
pub mod Unique
pub mod ValueLaws
pub mod KeptByChanges
pub mod InPlace
pub mod PlainWritings
