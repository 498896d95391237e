-- What the writer of the object text is told and answers.
pub mod Frames
