pub mod DecodeMapSteps
pub mod DecodeSteps
pub mod DecodeViews
pub mod EncodeMapSteps
pub mod EqualIntegers
pub mod FieldSteps
pub mod IntegerSteps
