-- The tape that the grammar writes and every later pass reads.
pub mod Events
pub mod Numbers
pub mod Tape
pub mod Pass
pub mod Written
pub mod Names
