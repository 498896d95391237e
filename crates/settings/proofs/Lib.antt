-- How the words are gone along, and what they say of registers.
pub mod Going
pub mod Said
