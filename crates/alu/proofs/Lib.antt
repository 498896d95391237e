-- The files of this crate's proofs.
pub mod Signed
pub mod Unsigned
pub mod Products
pub mod Shifts
pub mod Cases
