-- Lists of entries: keys with values.
pub mod Lists
pub mod PairLaws
pub mod PairPositions
pub mod Zips
pub mod Merges
pub mod PutEach
pub mod Retention
