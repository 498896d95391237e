-- What the interface for C promises of tokens and grammar.
pub mod Lent
