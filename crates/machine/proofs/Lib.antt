-- The files of this crate's proofs.
pub mod Operands
pub mod Runs
pub mod Stops
pub mod Resumes
pub mod Outside
pub mod Effects
pub mod Rows
pub mod Cases
