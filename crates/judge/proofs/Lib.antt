-- Laws of the rules along a tape.
pub mod Moves
pub mod Answers
pub mod Along
pub mod Parts
pub mod Trees
