-- Laws of the columns.
pub mod Columns
pub mod Clearing
pub mod Bounds
pub mod Cutting
