-- Laws of the definitions of specs/, and worked texts.
pub mod Cases
pub mod Sizes
pub mod Gaps
pub mod Readings
pub mod Seeking
pub mod Shape
pub mod Values
pub mod Refused
pub mod Theorems
