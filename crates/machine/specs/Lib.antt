-- The machine of document 01, "Runner": what it may touch, its instructions, and a run of them.
pub mod Space
pub mod Instructions
pub mod Step
pub mod Run
pub mod Lent
pub mod Writes
pub mod Operands
