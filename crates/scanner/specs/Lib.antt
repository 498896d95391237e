-- What the functions of the scanner promise.
pub mod Inner
pub mod Entries
