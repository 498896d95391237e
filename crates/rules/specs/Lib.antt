-- The parts of a text by their tokens, and the tables that rules are judged by as the ledger's columns.
pub mod Parts
pub mod Shows
