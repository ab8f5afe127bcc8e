-- What is written of a value, piece by piece.
pub mod Emissions
pub mod ByteEnds
pub mod HeldBytes
pub mod Exits
pub mod Members
pub mod Orders
pub mod OrderedEntries
pub mod PlainRuns
pub mod PrintedUtf8
pub mod MemoryTexts
mod Rows
pub mod Appends
pub mod SpaceRuns
pub mod StringRuns
pub mod FormattedPieces
pub mod Writings
