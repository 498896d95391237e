-- Laws of the definitions of specs/.
pub mod Writing
pub mod Numerals
pub mod Parts
pub mod Numbers
pub mod Bytes
