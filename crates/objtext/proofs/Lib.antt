-- The files of this crate's proofs.
pub mod Cases
pub mod Lines
pub mod Written
pub mod Places
pub mod Segments
pub mod Walks
pub mod Exact
