-- What the programs that compare read and write.
pub mod Decimal
pub mod Checksum
