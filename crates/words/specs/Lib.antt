-- The words of a command line, and what they wish for.
pub mod Wishes
