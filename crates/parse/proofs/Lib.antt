-- The files of this crate's proofs.
pub mod Texts
pub mod Cases
pub mod Theorems
