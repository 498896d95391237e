-- Laws of lines and columns.
pub mod Going
pub mod Counting
pub mod Theorems
