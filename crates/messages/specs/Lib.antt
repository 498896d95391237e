-- What is said of a refusal: where it is, the line that it stands in, and why.
pub mod Phrases
pub mod Messages
