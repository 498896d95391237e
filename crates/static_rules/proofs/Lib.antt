-- The files of this crate's proofs.
pub mod Flags
pub mod Elements
pub mod Heeds
pub mod Lengths
pub mod Unbroken
pub mod Small
pub mod Known
pub mod Stays
pub mod Bases
pub mod Told
pub mod Kept
pub mod Uses
