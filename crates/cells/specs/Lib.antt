-- What `--set` and `--show` say of the cells of a source, and its run.
pub mod Elements
pub mod Setting
pub mod Showing
pub mod Running
