-- The cells of a name by the ledger; the operand along the tape; a text looked at.
pub mod Siting
pub mod Spanning
pub mod Looking
