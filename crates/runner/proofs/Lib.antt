-- The files of this crate's proofs.
pub mod Cases
pub mod Forms
pub mod Loads
pub mod Loaded
pub mod Refusals
pub mod Spaces
pub mod Stopping
pub mod Theorems
