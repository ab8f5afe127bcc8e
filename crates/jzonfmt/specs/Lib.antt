pub mod Run
pub mod Drive
