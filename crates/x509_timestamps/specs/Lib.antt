pub mod Reading
pub mod Timestamps
pub mod Views
pub mod facts
