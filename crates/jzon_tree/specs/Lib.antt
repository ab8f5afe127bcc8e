-- to be believed: what public clauses cite
pub mod Value
pub mod Same
pub mod SameLaws
pub mod Text
pub mod DisplayText
pub mod Writing
pub mod Generator
pub mod Styles
pub mod StyleLaws
pub mod SortedStyle
pub mod SortedStyleLaws
pub mod Generators
pub mod Lawful
pub mod Measure
pub mod Entries
pub mod IntoIter
pub mod View
pub mod Readers
pub mod Changers
pub mod Place
pub mod Lent
pub mod LentTypes
pub mod IntoJson
-- private
pub mod Private
