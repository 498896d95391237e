-- Laws behind the report of a run.
pub mod Registers
