-- What is said of a stop at an operand of a source.
pub mod Halts
