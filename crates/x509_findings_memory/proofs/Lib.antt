-- Lemmas on neighbours in sets, on loops over places, and on which identifiers were seen.
pub mod Neighbours
pub mod Steps
pub mod Contents
pub mod Seen
