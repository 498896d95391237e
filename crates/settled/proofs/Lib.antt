-- Laws of what is known of a text before code is made of it.
pub mod Laying
pub mod Reading
pub mod Places
pub mod Programs
pub mod Rooms
pub mod Judging
pub mod Ruling
