-- What readers promise.
pub mod Refusals
pub mod Kinds
pub mod Reads
