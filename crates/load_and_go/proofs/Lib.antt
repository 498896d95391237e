-- Laws behind the call that translates, loads and runs.
pub mod Going
pub mod Theorems
