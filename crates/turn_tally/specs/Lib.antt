pub mod Marks
pub mod Jobs
