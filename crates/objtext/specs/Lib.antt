-- The files of this crate's definitions.
pub mod Object
pub mod Reader
