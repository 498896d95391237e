-- The function that a packed meaning is, and what it takes.
pub mod Packed
pub mod Table
