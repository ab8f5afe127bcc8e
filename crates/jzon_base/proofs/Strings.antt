-- Bytes of strings: tables, escapes, plain blocks, prefixes.
pub mod ByteTables
pub mod Escapes
pub mod PlainBlocks
pub mod WriterBytes
pub mod CopiedPrefixes
