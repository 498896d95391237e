-- Laws of the writer.
pub mod Lines
pub mod Objects
