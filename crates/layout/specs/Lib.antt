-- Layout and images along a tape.
pub mod Along
