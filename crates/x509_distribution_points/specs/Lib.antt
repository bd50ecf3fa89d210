pub mod DistributionPoint
pub mod DistributionPointName
pub mod IssuingDistributionPoint
pub mod ReasonFlags
pub mod facts
pub mod fields
