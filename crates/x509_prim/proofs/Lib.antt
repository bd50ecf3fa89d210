pub mod FirstUnits
pub mod Units
