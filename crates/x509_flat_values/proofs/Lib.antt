-- Lemmas about what the calls answer.
pub mod Walking
pub mod Answering
pub mod BitLengths
pub mod KeyWalks
pub mod SignatureWalks
pub mod LastFields
pub mod Checking
pub mod Listing
pub mod Sequences
pub mod PointWalks
pub mod PointNames
pub mod PrivateKeyWalks
pub mod RequestAttributes
