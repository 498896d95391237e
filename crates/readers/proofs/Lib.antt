-- The files of this crate's proofs.
pub mod Reading
pub mod Loops
pub mod Choices
