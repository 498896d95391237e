-- Laws of addresses and code along a tape.
pub mod Placing
pub mod Kept
pub mod Coding
pub mod Holding
pub mod Laying
pub mod Tables
pub mod Expressions
pub mod Leaves
pub mod Declarations
pub mod Statements
pub mod Addresses
pub mod Agreeing
pub mod Program
