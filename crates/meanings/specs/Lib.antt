-- Meanings along a tape, and their state as arrays.
pub mod Along
pub mod Flat
