-- Laws of the instructions of events, and of trees.
pub mod Tables
pub mod Knowing
pub mod Operands
pub mod Written
pub mod Uses
pub mod Sizes
pub mod Walks
pub mod Events
pub mod Trees
