-- The answer by the paper's numbers; what a part of the translator owes for the groups of refusals that are left.
pub mod Answers
pub mod Groups
