-- Number bytes, digits and decimals.
pub mod EightDigits
pub mod ExactPoints
pub mod DigitPrefixes
pub mod LostDigits
pub mod NumberBytes
pub mod LeadingDigits
pub mod Powers
pub mod PrintedRows
pub mod ReadRows
pub mod SameRows
pub mod Scaling
pub mod DigitScans
