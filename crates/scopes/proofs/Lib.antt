-- The files of this crate's proofs.
pub mod Order
pub mod Joins
pub mod Least
pub mod Hiding
pub mod Numbers
pub mod Finding
pub mod Bound
pub mod Early
pub mod Led
pub mod ByNumber
