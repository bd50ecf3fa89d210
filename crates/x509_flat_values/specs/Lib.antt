-- What the calls answer.
pub mod Accesses
pub mod Covered
pub mod Curves
pub mod Digests
pub mod Further
pub mod KeyParts
pub mod Keys
pub mod Lists
pub mod Numbers
pub mod Points
pub mod Policies
pub mod PrivateKeys
pub mod Requests
pub mod Signatures
pub mod Told
