-- Lemmas about what the calls answer.
pub mod Counts
pub mod ExtensionPlaces
pub mod SignedParts
pub mod Told
pub mod Fills
