pub mod ErrorTexts
pub mod Errors
pub mod Escaped
pub mod Found
pub mod Locate
pub mod Names
pub mod Placed
pub mod Pointer
pub mod Shown
-- private
pub mod Private
