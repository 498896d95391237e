-- Laws behind the code that reads and writes lines.
pub mod Digits
pub mod Products
