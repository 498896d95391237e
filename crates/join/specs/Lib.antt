-- The files of this crate's definitions.
pub mod Writes
pub mod Points
pub mod Operands
pub mod Programs
