-- The report of a run.
pub mod Reports
