pub mod AddedBytes
pub mod CountsOfSpaces
pub mod RejectedInputs
