-- The files of this crate's definitions.
pub mod Registers
pub mod Functions
pub mod Meaning
pub mod Meanings
pub mod Tables
pub mod Rules
pub mod Kinds
