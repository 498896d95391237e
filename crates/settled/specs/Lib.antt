-- A text with its tables as arrays.
pub mod Texts
