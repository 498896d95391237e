-- The rules along a tape.
pub mod Along
