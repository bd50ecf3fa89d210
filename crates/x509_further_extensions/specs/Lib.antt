pub mod Further
pub mod facts
