-- Laws of chains, and of linking and labelling along the tape.
pub mod Chains
pub mod Along
pub mod Links
pub mod Trees
