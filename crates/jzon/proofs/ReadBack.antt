-- What is printed reads back. The main statements:
-- `read_back` (ReadsBack): each text written for a value without NaN is read as an equal value
-- `redumped` (Redump): the compact text of a value is read as a value with the same compact text
-- `meaning_held` (MeaningHeld): what is read is a value that both laws apply to
-- `number_read_back` (NumbersReadBack): the text of a number is read as an equal number
-- `exact_numbers` (ExactNumbers): what an exact reading reads of a number is all that its digits spell
-- `inexact_numbers` (InexactNumbers): what it rejects as inexact isn't
-- Letters: Texts.antt, and
--   s style   dent indentation   high how many more containers may be opened   b bytes that are written   m mantissa
--   e exponent   ms, ns nodes or members
pub mod NumeralTexts
pub mod NumberTextLengths
pub mod PrintedParts
pub mod PrintedForms
pub mod TrailingZeros
pub mod NumbersReadBack
pub mod Unbroken
pub mod WrittenStrings
pub mod DistinctKeys
pub mod WrittenTrees
pub mod Redump
pub mod Orders
pub mod JoinedTrees
pub mod ReadsBack
pub mod UnmarkedCells
pub mod MeaningHeld
pub mod StrictStyles
pub mod ExactNumbers
pub mod InexactNumbers
