pub mod AccessDescription
pub mod GeneralSubtree
pub mod NameConstraints
pub mod PolicyConstraints
pub mod PolicyMapping
pub mod PrivateKeyUsagePeriod
pub mod facts
pub mod fields
