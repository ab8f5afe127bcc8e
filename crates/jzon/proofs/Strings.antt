-- Strings (RFC 8259, section 7), as values and as names of members: from the opening quote to after the closing one.
-- Letters: Texts.antt, and
--   is items (a character, an escape, two `\u` escapes)   bs bytes of the string so far   u, v code units

-- the automaton
pub mod StringCharacters
pub mod CompleteStrings
pub mod SoundStrings
-- the bytes
pub mod StringSteps
pub mod PlainRuns
pub mod Quotes
pub mod HexDigits
pub mod Escapes
