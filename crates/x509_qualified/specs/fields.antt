-- Where fields stand, written by tools/structures.py from declarations.asn1.
pub mod DirectoryAttribute
pub mod QcStatement
