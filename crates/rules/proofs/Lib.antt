-- Laws of the rules by packed meanings and parts by their tokens.
pub mod Sorts
pub mod Answers
