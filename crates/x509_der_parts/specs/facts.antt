-- Lemmas about the definitions.
pub mod Deviations
pub mod LengthDigits
pub mod Element
pub mod ElementPlaces
pub mod FieldPlaces
pub mod Fields
pub mod ItemPlaces
pub mod Lists
pub mod Parts
pub mod MarkOrder
pub mod SameEq
pub mod Tags
pub mod Tally
pub mod Writing
pub mod Output
