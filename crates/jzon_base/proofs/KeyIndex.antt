-- The index of keys: its entries, its runs, and how a key is found.
pub mod Positions
pub mod Indexes
pub mod Permutations
pub mod RisingEntries
pub mod RunMerges
pub mod KnownKeys
pub mod Searches
pub mod Filters
pub mod FlatRuns
pub mod Tables
pub mod Refills
pub mod Removals
