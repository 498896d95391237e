-- The files of this crate's proofs.
pub mod Sizes
pub mod Literals
pub mod Rooms
pub mod Answers
pub mod Tables
pub mod Tokens
pub mod Ready
pub mod Encoded
pub mod Emitted
pub mod Images
pub mod Objects
pub mod Numbers
pub mod Breaking
pub mod Rows
pub mod Worked
pub mod Theorems
