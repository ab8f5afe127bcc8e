-- Values (RFC 8259, section 3), arrays (5) and objects (4): before a value, between values and after them.
-- Letters: Texts.antt

-- the automaton
pub mod CompleteValues
pub mod SoundValues
-- the bytes
pub mod LiteralLetters
pub mod WholeLiterals
pub mod FirstBytes
pub mod ContainerSteps
pub mod FrameViews
pub mod StackParts
pub mod OpenItems
pub mod ContainerTokens
pub mod PutValues
