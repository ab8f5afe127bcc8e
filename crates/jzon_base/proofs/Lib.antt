pub mod Common
pub mod Numbers
pub mod Strings
pub mod KeyIndex
pub mod Entries
