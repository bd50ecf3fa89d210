pub mod OwnStructures
