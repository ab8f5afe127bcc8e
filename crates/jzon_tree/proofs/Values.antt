-- Values and their parts, seen as the definitions see them.
pub mod Comparisons
pub mod LentSteps
pub mod Inspections
pub mod PairKeys
pub mod PartViews
pub mod Views
pub mod PointwiseRelations
pub mod PutPairs
pub mod WriteViews
pub mod LentPositions
