-- The cells of a text by their names, and its operands by the addresses of their instructions.
pub mod Sound
pub mod Cells
pub mod Operands
pub mod Seeing
