-- Where a stored object text differs from what its source becomes.
pub mod Differences
