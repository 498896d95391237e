-- Laws behind the interface for C.
pub mod Rooms
