-- What `--set` and `--show` say of registers.
pub mod Setting
