pub mod Kinds
pub mod UnreadLabels
pub mod Standings
