-- Laws of packed meanings, sets of registers and stacks.
pub mod Meanings
pub mod Sets
pub mod Stacks
