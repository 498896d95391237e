-- Exit statuses.
pub mod Statuses
