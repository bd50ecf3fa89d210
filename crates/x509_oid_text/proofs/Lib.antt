-- Lemmas about digits, dotted text, and names.
pub mod Digits
pub mod Dotted
pub mod Names
