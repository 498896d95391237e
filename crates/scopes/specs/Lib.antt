-- The files of this crate's definitions.
pub mod Broken
pub mod Search
pub mod Names
pub mod Labels
pub mod Found
pub mod ByNumber
