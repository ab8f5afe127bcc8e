-- Private definitions: no public clause cites them.
pub mod Removals
