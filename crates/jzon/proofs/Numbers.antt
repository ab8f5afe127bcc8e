-- Numbers (RFC 8259, section 6): from the first character of a number to the one after it. Letters: Texts.antt, and
--   ws digits before the point   ds those after it   xs those of the exponent   l its letter e or E
--   lists that grow are kept in reverse: `onto ds []` are the digits in their order

-- the automaton
pub mod NumberLimits
pub mod CompleteNumbers
pub mod SoundNumbers
-- the bytes
pub mod DigitRuns
pub mod FirstDigits
pub mod NumeralOutcomes
pub mod NumeralOffsets
pub mod Magnitudes
