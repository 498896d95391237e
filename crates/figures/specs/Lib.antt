-- Texts that are put together in lent room, numbers in them, and their parts.
pub mod Writing
pub mod Parts
pub mod Digits
pub mod Numbers
