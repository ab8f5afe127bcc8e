pub mod Numbers
pub mod Strings
pub mod Containers
pub mod Texts
pub mod ReadBack
pub mod WorkedRows
pub mod AnswerLaws
mod PrintedTexts
-- the lower crates' laws, for callers (crates/jzon/CALLING.md)
pub use Rattle.jzon_base.proofs.Entries.PairLaws
pub use Rattle.jzon_base.proofs.Numbers.Powers
pub use Rattle.jzon_tree.proofs.Laws.ValueLaws
pub use Rattle.jzon_tree.proofs.Laws.KeptByChanges
pub use Rattle.jzon_tree.proofs.Laws.Chains
pub use Rattle.jzon_tree.proofs.Laws.InPlace
pub use Rattle.jzon_tree.proofs.Laws.PlainWritings
pub use Rattle.jzon_tree.proofs.Laws.Sorted
pub use Rattle.jzon_tree.proofs.Laws.KeyOrder
pub use Rattle.jzon_tree.proofs.Laws.Unique
pub use Rattle.jzon_tree.proofs.Printing.Appends
pub use Rattle.jzon_tree.proofs.Printing.FormattedPieces
pub use Rattle.jzon_tree.proofs.Printing.PrintedUtf8
