-- Private definitions: how the code relates to those that public clauses cite. No public clause of `jzon` cites them.
pub mod Printing
pub mod Inspected
pub mod Buffer
pub mod Buffered
