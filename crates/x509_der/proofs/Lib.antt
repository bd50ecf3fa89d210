pub mod Oids
pub mod Raws
pub mod Texts
