-- A run as the code answers it.
pub mod Lent
