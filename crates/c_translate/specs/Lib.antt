-- What the interface for C promises.
pub mod Lent
