-- Worked texts of the rules: what each of these texts is read as, means and is printed as, where it breaks a limit, or
-- its error, by the definitions. No code is involved: a definition that disagrees with a row fails here.
pub mod Samples
pub mod SpellingRows
pub mod MarkRows
pub mod FaultRows
pub mod DigitRows
pub mod DepthRows
pub mod ReadRows
pub mod WritingRows
