-- The runner of document 01: loading, the whole answer, and what stops an instruction.
pub mod Load
pub mod Charted
pub mod Numbers
pub mod Runner
pub mod Stops
