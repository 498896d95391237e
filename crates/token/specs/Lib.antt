-- Document 01, "Text and tokens", and refusals 1 to 3; what the answers of the code say.
pub mod Kinds
pub mod Text
pub mod Refusals
pub mod Answers
