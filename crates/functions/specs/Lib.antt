-- Functions as rows of numbers.
pub mod Arguments
