-- Private definitions: how the code relates to those that public clauses cite. Of them the public clauses of `jzon` cite
-- only `decimal_of` and `Knows`.
pub mod Filter
pub mod Hash
pub mod Keys
pub mod KnownKeys
pub mod NumberFields
pub mod PlainBytes
pub mod Runs
pub mod Same
