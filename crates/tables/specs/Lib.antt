-- The tables of a text's meanings, as arrays of numbers; stacks as arrays.
pub mod Packed
pub mod Stacks
