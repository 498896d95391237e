-- Laws of layout and images along a tape.
pub mod Along
pub mod Trees
pub mod Laid
pub mod Capped
pub mod Images
