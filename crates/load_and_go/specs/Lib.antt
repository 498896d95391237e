-- What is answered to a source that is translated, loaded and run in one call.
pub mod Going
