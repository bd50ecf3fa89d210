-- Where fields stand, written by tools/structures.py from declarations.asn1.
pub mod DistributionPoint
pub mod DistributionPointName
pub mod IssuingDistributionPoint
