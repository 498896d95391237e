-- The files of this crate's definitions.
pub mod Instructions
pub mod Core
pub mod Code
pub mod Layout
pub mod Bytes
pub mod Image
pub mod Translate
pub mod Broken
pub mod Rows
pub mod Worked
