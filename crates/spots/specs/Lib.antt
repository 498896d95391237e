-- Lines and columns of a text.
pub mod Spots
pub mod Going
