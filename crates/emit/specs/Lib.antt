-- The instructions of each event of a tape.
pub mod Books
pub mod Codes
pub mod Events
pub mod Along
