-- What the passes make of a program's tape is what the definition makes of its tree; and its delivery.
pub mod Segments
pub mod Defined
pub mod Literals
pub mod Delivering
pub mod Making
