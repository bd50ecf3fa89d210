-- Where fields stand, written by tools/structures.py from declarations.asn1.
pub mod DisplayText
pub mod NoticeReference
pub mod PolicyInformation
pub mod PolicyQualifierInfo
pub mod UserNotice
