-- Laws of a tape: what its numbers say, the tape of a tree, passes over it.
pub mod Pass
pub mod Numbers
pub mod Written
pub mod Names
