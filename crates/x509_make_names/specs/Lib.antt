-- What is made of names.
pub mod SetOrder
pub mod UsualTags
