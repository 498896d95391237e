-- A place in a text as it is shown.
pub mod Lines
