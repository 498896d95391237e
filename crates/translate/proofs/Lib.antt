-- Laws of the whole translation.
pub mod Groups
pub mod Theorems
