-- Addresses, and the program's bytes and literals, along a tape.
pub mod Places
pub mod Coding
