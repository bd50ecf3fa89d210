-- What the calls promise that tell values.
pub mod Rests
pub mod Elements
pub mod Moments
pub mod Times
pub mod UnixTimes
pub mod Told
pub mod Names
pub mod GeneralNames
pub mod Purposes
pub mod Values
pub mod Extensions
pub mod Certificates
pub mod Hosts
pub mod Usages
pub mod facts
