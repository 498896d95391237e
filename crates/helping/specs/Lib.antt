-- What `tautgaff help` writes.
pub mod Pages
pub mod Help
