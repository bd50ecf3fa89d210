pub mod Cursors
pub mod Seen
