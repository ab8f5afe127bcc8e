pub mod Config
pub mod Filter
pub mod ReadBack
pub mod Server
