-- Private definitions: how the code relates to those that public clauses cite. No public clause of `jzon` cites them.
pub mod Classes
pub mod Quote
pub mod Stops
pub mod Lines
pub mod Machine
pub mod Targets
pub mod Numerals
pub mod Brackets
pub mod Cursor
pub mod ReadingFields
pub mod OpenContainers
pub mod Stacks
pub mod Read
