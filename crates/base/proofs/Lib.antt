-- Laws of the definitions of specs/, in modules of the same names; `Tests` and `Parts` are about the library's tests and lists.
pub mod Tests
pub mod Text
pub mod Parts
pub mod Lists
pub mod Tables
pub mod Runs
pub mod Walk
pub mod Numbers
