-- Definitions that every layer uses; they know nothing of any language or machine. The laws about them stand in proofs/, in modules of the same names.
pub mod Choose
pub mod Text
pub mod Lists
pub mod Tables
pub mod Runs
pub mod Walk
pub mod Numbers
