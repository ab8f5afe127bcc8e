-- Whole texts (RFC 8259, section 2): how the automaton of specs/Private/Machine, which goes from a state and a
-- character to the next state, relates to trees that spell texts. The four statements on which everything rests:
-- complete: over the cells of a tree the automaton goes from before it to after its meaning, each move with its cell's
--   mark (`complete`: Containers/CompleteValues)
-- sound: if the automaton reads a text to a value, ignoring marks, some tree spells the text and means it (`sound`:
--   Containers/SoundValues)
-- closing: from each state a text, computed by the function `closer`, leads to an end (`closes`: Closing)
-- one tree: two trees that spell the same text are equal (`same_tree`: OneTree; no automaton is involved)
-- What follows from them: `answers` and `one_tree_or_one_fault` (Verdict); of one text, by computation, `read_tree`
-- (ReadTree) and `refused_error` (Answers).
--
-- Letters, here and in Numbers, Strings and Containers:
--   r reading   d document   n node (a value's tree)   t text   c character   cs, u the characters after it
--   f prefix   g what may follow it   b, w whitespace   k cells or characters that follow   p, q, s states
--   fs open containers, the innermost first   vs elements so far   es entries so far   v, x value
--   left characters left   G, H what is required of the state or the outcome at the end
-- The bytes: bs text as bytes   i offset   b byte

-- the automaton
pub mod ClassesOfCharacters
pub mod Cells
pub mod TreeCharacters
pub mod Runs
pub mod Faults
pub mod OneTree
pub mod Closing
pub mod AlikeStates
pub mod Prefixes
pub mod Verdict
pub mod Answers
pub mod ReadTree
-- the bytes
pub mod AsciiRuns
pub mod WhitespaceBlocks
pub mod StepsByByte
pub mod FaultOffsets
pub mod ReportedErrors
pub mod LocatedErrors
pub mod Cursors
pub mod ByteCounts
pub mod Columns
pub mod TrailingWhitespace
