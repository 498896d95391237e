-- What the runner's interface for C promises.
pub mod Lent
