-- The answer by the paper's numbers, and what the passes make of a text along its tape.
pub mod Answers
pub mod Making
