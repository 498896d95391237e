-- The files of this crate's proofs.
pub mod Told
