mod Carrying
mod Algorithms
mod Names
mod Keys
mod Extensions
mod SignedParts
mod Parts
