-- Facts about structures, written by tools/structures.py from declarations.asn1.
pub mod AccessDescription
pub mod GeneralSubtree
pub mod NameConstraints
pub mod PolicyConstraints
pub mod PolicyMapping
pub mod PrivateKeyUsagePeriod
